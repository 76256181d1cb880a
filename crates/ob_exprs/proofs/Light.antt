-- How deep the machine gets in one shift: no deeper than before, or than what was read last.
use Rattle.std.proofs.Common.{◌≡◌, ℕ, ◌+◌, ◌<◌, ◌≤◌, max, List, [], ◌∷◌, Option, Some, None, refl, ◌∙◌, arith, inl, inr, ◌⊎◌, Bool, true, false, cond, ◌&&◌}
use Rattle.std.specs.Prelude.{nat_le, nat_lt}
use Rattle.std.proofs.lemmas.Bool.{cases_lt}
use Rattle.ob_tree.specs.declared.tokens.TokenKind.{TokenKind}
use Rattle.ob_tree.specs.declared.tokens.TokenKind.TheVariants as kind
use Rattle.ob_tree.specs.declared.tokens.Keyword.{Keyword}
use Rattle.ob_tree.specs.declared.tokens.Keyword.TheVariants as word
use Rattle.ob_tree.specs.declared.tokens.Sign.{Sign}
use Rattle.ob_tree.specs.declared.tokens.Sign.TheVariants as sign
use Rattle.ob_tree.specs.Trees.{Mark, Infix, ExprTree, ExprTrees, SpecTree, MemberTrees, DimTrees, ObjTrees}
use Rattle.ob_tree.specs.Integers.{is_integer}
use Rattle.ob_tree.specs.Levels.{postfix_level, cast_level, binary_level, is_assign, is_unary, infix_level, left_level, level_of, mark_of}
use Rattle.ob_tree.specs.ExprStates.{Head, OfType, OfMember, StructBody, StructDeclaration, PendingNode, InParen, InIndex, InCall, InUnary, InSize, InJoin, InThen, InLength, InType, InStruct, State, BeforeOperand, Open, Size, SizeOpen, Called, Select, AfterOperand, Specifier, StructWord, Members, Declare, Dims, AfterSpec, right_precedence, top_operand_level, close, reduce, at_sign}
use Rattle.ob_tree.specs.ExprMachine.{is_spec_word, spec_word, specifier, operand_word, operand_sign, operand, opened, sized, size_opened, called, select, call_to, string_to, join_to, then_to, comma_to, close_paren, close_bracket, colon_to, operator_to, after_sign, after, dims_sign, after_dims, declare, spec_under, word_to, brace_to, after_spec, struct_to, close_struct, members_to, shift}
use Rattle.ob_tree.proofs.Unreduced.{lt-yes, lt-no}
use Rattle.ob_exprs.specs.DeepestPaths.{depth_of, deepest_stack_path, newest_path, deepest_path}
use Rattle.ob_exprs.proofs.Kept.{close-path}

abbrev pub Light : (before : ℕ) → Option State → Type 0
Light before None = Unit {0}
Light before (Some s) = deepest_path s ≤ max before (newest_path s)

cond-light : (before : ℕ) (b : Bool) (s : State) → deepest_path s ≤ max before (newest_path s) → Light before (cond b (Some s) None)
cond-light before true s h = h
cond-light before false s h = tt

reduce-path : (n : ℕ) (e : ExprTree) (fs : List PendingNode) → deepest_path (AfterOperand (reduce n e fs).0 (reduce n e fs).1) ≡ deepest_path (AfterOperand e fs)
reduce-path n e [] = refl
reduce-path n e (f ∷ fs) = go (reduce-path n (close f e) fs) (cases_lt n (right_precedence f))
  where
    go : deepest_path (AfterOperand (reduce n (close f e) fs).0 (reduce n (close f e) fs).1) ≡ deepest_path (AfterOperand (close f e) fs) → (n < right_precedence f) ⊎ (right_precedence f ≤ n)
        → deepest_path (AfterOperand (reduce n e (f ∷ fs)).0 (reduce n e (f ∷ fs)).1) ≡ deepest_path (AfterOperand e (f ∷ fs))
    go next (inl h) = rw (lt-yes n (right_precedence f) h) (next ∙ close-path n f e fs h)
    go next (inr h) = rw (lt-no n (right_precedence f) h) refl

module _ (before : ℕ) where
  operand-sign-light : (m : Mark) (s : Sign) (fs : List PendingNode) → deepest_stack_path fs ≤ before → Light before (operand_sign m s fs)
  operand-sign-light m sign.OpenParen fs l = omega arith
  operand-sign-light m sign.PlusPlus fs l = omega arith
  operand-sign-light m sign.MinusMinus fs l = omega arith
  operand-sign-light m s fs l = cond-light before (is_unary s) (BeforeOperand (InUnary m s ∷ fs)) (omega arith)

  operand-word-light : (m : Mark) (w : Keyword) (fs : List PendingNode) → deepest_stack_path fs ≤ before → Light before (operand_word m w fs)
  operand-word-light m word.Null fs l = omega arith
  operand-word-light m word.Eof fs l = omega arith
  operand-word-light m word.Sizeof fs l = omega arith
  operand-word-light m w fs l = tt

  operand-light : (m : Mark) (k : TokenKind) (fs : List PendingNode) → deepest_stack_path fs ≤ before → Light before (operand m k fs)
  operand-light m (kind.Name name) fs l = omega arith
  operand-light m (kind.Number value ty) fs l = omega arith
  operand-light m (kind.Str s) fs l = omega arith
  operand-light m (kind.Word w) fs l = operand-word-light m w fs l
  operand-light m (kind.Sign s) fs l = operand-sign-light m s fs l

  spec-word-light : (p : ℕ) (w : Keyword) (fs : List PendingNode) → deepest_stack_path fs ≤ before → Light before (spec_word p w fs)
  spec-word-light p word.Void fs l = omega arith
  spec-word-light p word.SizeT fs l = omega arith
  spec-word-light p word.Struct fs l = omega arith
  spec-word-light p w fs l = cond-light before (is_integer (w ∷ [])) (AfterSpec (SpecTree.Integer p (w ∷ [])) fs) (omega arith)

  specifier-light : (p : ℕ) (k : TokenKind) (fs : List PendingNode) → deepest_stack_path fs ≤ before → Light before (specifier p k fs)
  specifier-light p (kind.Word w) fs l = spec-word-light p w fs l
  specifier-light p (kind.Name name) fs l = tt
  specifier-light p (kind.Number value ty) fs l = tt
  specifier-light p (kind.Str s) fs l = tt
  specifier-light p (kind.Sign s) fs l = tt

  dims-sign-light : (s : Sign) (h : Head) (ds : DimTrees) (fs : List PendingNode) → deepest_stack_path fs ≤ before → Light before (dims_sign s h ds fs)
  dims-sign-light sign.OpenBracket h ds fs l = omega arith
  dims-sign-light sign.Star (OfType m z s n) DimTrees.NoDims fs l = omega arith
  dims-sign-light sign.Star (OfType m z s n) (DimTrees.Unsized ds) fs l = tt
  dims-sign-light sign.Star (OfType m z s n) (DimTrees.Sized e ds) fs l = tt
  dims-sign-light sign.Star (OfMember line n name a) ds fs l = tt
  dims-sign-light sign.CloseParen (OfType m false s n) ds fs l = omega arith
  dims-sign-light sign.CloseParen (OfType m true s n) ds fs l = omega arith
  dims-sign-light sign.CloseParen (OfMember line n name a) ds fs l = tt
  dims-sign-light sign.Comma (OfType m z s n) ds fs l = tt
  dims-sign-light sign.Comma (OfMember line n name a) ds fs l = omega arith
  dims-sign-light sign.Semi (OfType m z s n) ds fs l = tt
  dims-sign-light sign.Semi (OfMember line n name a) ds fs l = omega arith
  dims-sign-light s h ds fs l = tt

  dims-light : (k : TokenKind) (h : Head) (ds : DimTrees) (fs : List PendingNode) → deepest_stack_path fs ≤ before → Light before (after_dims k h ds fs)
  dims-light (kind.Sign s) h ds fs l = dims-sign-light s h ds fs l
  dims-light (kind.Name name) h ds fs l = tt
  dims-light (kind.Number value ty) h ds fs l = tt
  dims-light (kind.Str s) h ds fs l = tt
  dims-light (kind.Word w) h ds fs l = tt

  declare-light : (p : ℕ) (k : TokenKind) (line : StructDeclaration) (n : ℕ) (fs : List PendingNode) → deepest_stack_path fs ≤ before → Light before (declare p k line n fs)
  declare-light p (kind.Sign sign.Star) line n fs l = omega arith
  declare-light p (kind.Name name) line n fs l = omega arith
  declare-light p (kind.Sign s) line n fs l = tt
  declare-light p (kind.Number value ty) line n fs l = tt
  declare-light p (kind.Str s) line n fs l = tt
  declare-light p (kind.Word w) line n fs l = tt

  under-light : (p : ℕ) (k : TokenKind) (s : SpecTree) (fs : List PendingNode) → deepest_stack_path fs ≤ before → Light before (spec_under p k s fs)
  under-light p k s (InType m z ∷ fs) l = dims-light k (OfType m z s 0) DimTrees.NoDims fs (omega arith)
  under-light p k s (InStruct b ∷ fs) l = declare-light p k (record { body = b; spec = s; names = ObjTrees.NoDeclarators }) 0 fs (omega arith)
  under-light p k s fs l = tt

  word-light : (w : Keyword) (s : SpecTree) (fs : List PendingNode) → deepest_stack_path fs ≤ before → Light before (word_to w s fs)
  word-light w (SpecTree.Integer f ws) fs l = cond-light before _ (AfterSpec (SpecTree.Integer f _) fs) (omega arith)
  word-light w (SpecTree.Void f) fs l = tt
  word-light w (SpecTree.SizeT f) fs l = tt
  word-light w (SpecTree.Tag f tag) fs l = tt
  word-light w (SpecTree.Struct f tag ms) fs l = tt

  brace-light : (s : SpecTree) (fs : List PendingNode) → deepest_stack_path fs ≤ before → Light before (brace_to s fs)
  brace-light (SpecTree.Tag f tag) fs l = omega arith
  brace-light (SpecTree.Integer f ws) fs l = tt
  brace-light (SpecTree.Void f) fs l = tt
  brace-light (SpecTree.SizeT f) fs l = tt
  brace-light (SpecTree.Struct f tag ms) fs l = tt

  after-spec-light : (p : ℕ) (k : TokenKind) (s : SpecTree) (fs : List PendingNode) → deepest_stack_path fs ≤ before → Light before (after_spec p k s fs)
  after-spec-light p (kind.Word w) s fs l = word-light w s fs l
  after-spec-light p (kind.Sign sign.OpenBrace) s fs l = brace-light s fs l
  after-spec-light p (kind.Sign x) s fs l = under-light p (kind.Sign x) s fs l
  after-spec-light p k s fs l = under-light p k s fs l

  struct-light : (k : TokenKind) (f : ℕ) (fs : List PendingNode) → deepest_stack_path fs ≤ before → Light before (struct_to k f fs)
  struct-light (kind.Name tag) f fs l = omega arith
  struct-light (kind.Sign sign.OpenBrace) f fs l = omega arith
  struct-light (kind.Sign s) f fs l = tt
  struct-light (kind.Number value ty) f fs l = tt
  struct-light (kind.Str s) f fs l = tt
  struct-light (kind.Word w) f fs l = tt

  close-struct-light : (f : ℕ) (tag : Option (List ℕ)) (ms : MemberTrees) (fs : List PendingNode) → deepest_stack_path fs ≤ before → Light before (close_struct f tag ms fs)
  close-struct-light f tag MemberTrees.NoMembers fs l = tt
  close-struct-light f tag (MemberTrees.MemberLine s names ms) fs l = omega arith

  select-light : (k : TokenKind) (m : Mark) (arrow : Bool) (b : ExprTree) (fs : List PendingNode) → deepest_stack_path fs ≤ before → Light before (select k m arrow b fs)
  select-light (kind.Name name) m false b fs l = omega arith
  select-light (kind.Name name) m true b fs l = omega arith
  select-light (kind.Number value ty) m arrow b fs l = tt
  select-light (kind.Str s) m arrow b fs l = tt
  select-light (kind.Word w) m arrow b fs l = tt
  select-light (kind.Sign s) m arrow b fs l = tt

  -- behind what was reduced
  module _ (least p : ℕ) (r : ExprTree × List PendingNode) (kept : deepest_path (AfterOperand r.0 r.1) ≡ before) where
    join-light : (op : Infix) → Light before (join_to least op p r)
    join-light op = cond-light before (nat_le (left_level op) (level_of r.0) && nat_le (top_operand_level least r.1) (infix_level op)) (BeforeOperand (InJoin (at_sign (mark_of r.0) p) op r.0 ∷ r.1)) (omega arith)

    then-light : Light before (then_to least p r)
    then-light = cond-light before (nat_le 3 (level_of r.0) && nat_le (top_operand_level least r.1) 2) (BeforeOperand (InThen (at_sign (mark_of r.0) p) r.0 ∷ r.1)) (omega arith)

  comma-light : (least p : ℕ) (e : ExprTree) (fs : List PendingNode) → deepest_path (AfterOperand e fs) ≡ before → Light before (comma_to least p e fs)
  comma-light least p e (InCall m name es ∷ fs) h = omega arith
  comma-light least p e [] h = join-light least p (e, []) h Infix.Comma
  comma-light least p e (f ∷ fs) h = join-light least p (e, f ∷ fs) h Infix.Comma

  paren-light : (e : ExprTree) (fs : List PendingNode) → deepest_path (AfterOperand e fs) ≡ before → Light before (close_paren e fs)
  paren-light e [] h = tt
  paren-light e (InParen m ∷ fs) h = omega arith
  paren-light e (InCall m name es ∷ fs) h = omega arith
  paren-light e (f ∷ fs) h = tt

  bracket-light : (e : ExprTree) (fs : List PendingNode) → deepest_path (AfterOperand e fs) ≡ before → Light before (close_bracket e fs)
  bracket-light e [] h = tt
  bracket-light e (InIndex m b ∷ fs) h = omega arith
  bracket-light e (InLength g ds ∷ fs) h = omega arith
  bracket-light e (f ∷ fs) h = tt

  colon-light : (e : ExprTree) (fs : List PendingNode) → deepest_path (AfterOperand e fs) ≡ before → Light before (colon_to e fs)
  colon-light e [] h = tt
  colon-light e (InThen m c ∷ fs) h = omega arith
  colon-light e (f ∷ fs) h = tt

operator-light : (least p : ℕ) (s : Sign) (e : ExprTree) (fs : List PendingNode) → Light (deepest_path (AfterOperand e fs)) (operator_to least p s e fs)
operator-light least p s e fs = go (is_assign s) (nat_lt 0 (binary_level s))
  where
    go : (a b : Bool) → Light (deepest_path (AfterOperand e fs)) (cond a (join_to least (Infix.Assign s) p (reduce 1 e fs)) (cond b (join_to least (Infix.Binary s) p (reduce (binary_level s) e fs)) None))
    go true b = join-light (deepest_path (AfterOperand e fs)) least p (reduce 1 e fs) (reduce-path 1 e fs) (Infix.Assign s)
    go false true = join-light (deepest_path (AfterOperand e fs)) least p (reduce (binary_level s) e fs) (reduce-path (binary_level s) e fs) (Infix.Binary s)
    go false false = tt

call-light : (e : ExprTree) (fs : List PendingNode) → Light (deepest_path (AfterOperand e fs)) (call_to e fs)
call-light (ExprTree.Name m name) fs = omega arith
call-light e fs = tt

string-light : (s : List ℕ) (e : ExprTree) (fs : List PendingNode) → Light (deepest_path (AfterOperand e fs)) (string_to s e fs)
string-light s (ExprTree.Str m ss) fs = omega arith
string-light s e fs = tt

after-sign-light : (least p : ℕ) (s : Sign) (e : ExprTree) (fs : List PendingNode) → Light (deepest_path (AfterOperand e fs)) (after_sign least p s e fs)
after-sign-light least p sign.OpenBracket e fs = cond-light (deepest_path (AfterOperand e fs)) (nat_le postfix_level (level_of e)) (BeforeOperand (InIndex (at_sign (mark_of e) p) e ∷ fs)) (omega arith)
after-sign-light least p sign.OpenParen e fs = call-light e fs
after-sign-light least p sign.Dot e fs = cond-light (deepest_path (AfterOperand e fs)) (nat_le postfix_level (level_of e)) (Select (at_sign (mark_of e) p) false e fs) (omega arith)
after-sign-light least p sign.Arrow e fs = cond-light (deepest_path (AfterOperand e fs)) (nat_le postfix_level (level_of e)) (Select (at_sign (mark_of e) p) true e fs) (omega arith)
after-sign-light least p sign.PlusPlus e fs = cond-light (deepest_path (AfterOperand e fs)) (nat_le postfix_level (level_of e)) (AfterOperand (ExprTree.Step (at_sign (mark_of e) p) true false e) fs) (omega arith)
after-sign-light least p sign.MinusMinus e fs = cond-light (deepest_path (AfterOperand e fs)) (nat_le postfix_level (level_of e)) (AfterOperand (ExprTree.Step (at_sign (mark_of e) p) true true e) fs) (omega arith)
after-sign-light least p sign.Question e fs = then-light (deepest_path (AfterOperand e fs)) least p (reduce 2 e fs) (reduce-path 2 e fs)
after-sign-light least p sign.Comma e fs = comma-light (deepest_path (AfterOperand e fs)) least p (reduce 0 e fs).0 (reduce 0 e fs).1 (reduce-path 0 e fs)
after-sign-light least p sign.CloseParen e fs = paren-light (deepest_path (AfterOperand e fs)) (reduce 0 e fs).0 (reduce 0 e fs).1 (reduce-path 0 e fs)
after-sign-light least p sign.CloseBracket e fs = bracket-light (deepest_path (AfterOperand e fs)) (reduce 0 e fs).0 (reduce 0 e fs).1 (reduce-path 0 e fs)
after-sign-light least p sign.Colon e fs = colon-light (deepest_path (AfterOperand e fs)) (reduce 0 e fs).0 (reduce 0 e fs).1 (reduce-path 0 e fs)
after-sign-light least p s e fs = operator-light least p s e fs

after-light : (least p : ℕ) (k : TokenKind) (e : ExprTree) (fs : List PendingNode) → Light (deepest_path (AfterOperand e fs)) (after least p k e fs)
after-light least p (kind.Sign s) e fs = after-sign-light least p s e fs
after-light least p (kind.Str s) e fs = string-light s e fs
after-light least p (kind.Name name) e fs = tt
after-light least p (kind.Number value ty) e fs = tt
after-light least p (kind.Word w) e fs = tt

opened-light : (least : ℕ) (m paren : Mark) (k : TokenKind) (fs : List PendingNode) → Light (deepest_path (Open paren fs)) (opened least m k paren fs)
opened-light least m paren (kind.Word w) fs = go (is_spec_word w) (nat_le (top_operand_level least fs) cast_level)
  where
    go : (a b : Bool) → Light (deepest_path (Open paren fs)) (cond a (cond b (spec_word m.first w (InType paren false ∷ fs)) None) (operand_word m w (InParen paren ∷ fs)))
    go true true = spec-word-light (deepest_path (Open paren fs)) m.first w (InType paren false ∷ fs) (omega arith)
    go true false = tt
    go false b = operand-word-light (deepest_path (Open paren fs)) m w (InParen paren ∷ fs) (omega arith)
opened-light least m paren (kind.Name name) fs = operand-light (deepest_path (Open paren fs)) m (kind.Name name) (InParen paren ∷ fs) (omega arith)
opened-light least m paren (kind.Number value ty) fs = operand-light (deepest_path (Open paren fs)) m (kind.Number value ty) (InParen paren ∷ fs) (omega arith)
opened-light least m paren (kind.Str s) fs = operand-light (deepest_path (Open paren fs)) m (kind.Str s) (InParen paren ∷ fs) (omega arith)
opened-light least m paren (kind.Sign s) fs = operand-light (deepest_path (Open paren fs)) m (kind.Sign s) (InParen paren ∷ fs) (omega arith)

sized-light : (m size : Mark) (k : TokenKind) (fs : List PendingNode) → Light (deepest_path (Size size fs)) (sized m k size fs)
sized-light m size (kind.Sign sign.OpenParen) fs = omega arith
sized-light m size (kind.Sign s) fs = operand-light (deepest_path (Size size fs)) m (kind.Sign s) (InSize size ∷ fs) (omega arith)
sized-light m size k fs = operand-light (deepest_path (Size size fs)) m k (InSize size ∷ fs) (omega arith)

called-light : (m call : Mark) (name : List ℕ) (k : TokenKind) (fs : List PendingNode) → Light (deepest_path (Called call name fs)) (called m k call name fs)
called-light m call name (kind.Sign sign.CloseParen) fs = omega arith
called-light m call name (kind.Sign s) fs = operand-light (deepest_path (Called call name fs)) m (kind.Sign s) (InCall call name ExprTrees.NoArguments ∷ fs) (omega arith)
called-light m call name k fs = operand-light (deepest_path (Called call name fs)) m k (InCall call name ExprTrees.NoArguments ∷ fs) (omega arith)

members-light : (p : ℕ) (k : TokenKind) (b : StructBody) (fs : List PendingNode) → Light (deepest_path (Members b fs)) (members_to p k b fs)
members-light p (kind.Sign sign.CloseBrace) b fs = close-struct-light (deepest_path (Members b fs)) b.first b.tag b.members fs (omega arith)
members-light p (kind.Sign s) b fs = tt
members-light p (kind.Word w) b fs = spec-word-light (deepest_path (Members b fs)) p w (InStruct b ∷ fs) (omega arith)
members-light p (kind.Name name) b fs = tt
members-light p (kind.Number value ty) b fs = tt
members-light p (kind.Str s) b fs = tt

-- behind `sizeof` and a parenthesis two nodes may begin at once, which what is read then stands below
deep-sign : (m : Mark) (s : Sign) (fs : List PendingNode) (before : ℕ) → deepest_stack_path fs ≤ max before (depth_of fs + 1) → Light before (operand_sign m s fs)
deep-sign m sign.OpenParen fs before l = omega arith
deep-sign m sign.PlusPlus fs before l = omega arith
deep-sign m sign.MinusMinus fs before l = omega arith
deep-sign m s fs before l = cond-light before (is_unary s) (BeforeOperand (InUnary m s ∷ fs)) (omega arith)

deep-word : (m : Mark) (w : Keyword) (fs : List PendingNode) (before : ℕ) → deepest_stack_path fs ≤ max before (depth_of fs + 1) → Light before (operand_word m w fs)
deep-word m word.Null fs before l = omega arith
deep-word m word.Eof fs before l = omega arith
deep-word m word.Sizeof fs before l = omega arith
deep-word m w fs before l = tt

deep-operand : (m : Mark) (k : TokenKind) (fs : List PendingNode) (before : ℕ) → deepest_stack_path fs ≤ max before (depth_of fs + 1) → Light before (operand m k fs)
deep-operand m (kind.Name name) fs before l = omega arith
deep-operand m (kind.Number value ty) fs before l = omega arith
deep-operand m (kind.Str s) fs before l = omega arith
deep-operand m (kind.Word w) fs before l = deep-word m w fs before l
deep-operand m (kind.Sign s) fs before l = deep-sign m s fs before l

size-opened-light : (m size paren : Mark) (k : TokenKind) (fs : List PendingNode) → Light (deepest_path (SizeOpen size paren fs)) (size_opened m k size paren fs)
size-opened-light m size paren (kind.Word w) fs = go (is_spec_word w)
  where
    go : (a : Bool) → Light (deepest_path (SizeOpen size paren fs)) (cond a (spec_word m.first w (InType size true ∷ fs)) (operand_word m w (InParen paren ∷ (InSize size ∷ fs))))
    go true = spec-word-light (deepest_path (SizeOpen size paren fs)) m.first w (InType size true ∷ fs) (omega arith)
    go false = deep-word m w (InParen paren ∷ (InSize size ∷ fs)) (deepest_path (SizeOpen size paren fs)) (omega arith)
size-opened-light m size paren (kind.Name name) fs = deep-operand m (kind.Name name) (InParen paren ∷ (InSize size ∷ fs)) (deepest_path (SizeOpen size paren fs)) (omega arith)
size-opened-light m size paren (kind.Number value ty) fs = deep-operand m (kind.Number value ty) (InParen paren ∷ (InSize size ∷ fs)) (deepest_path (SizeOpen size paren fs)) (omega arith)
size-opened-light m size paren (kind.Str s) fs = deep-operand m (kind.Str s) (InParen paren ∷ (InSize size ∷ fs)) (deepest_path (SizeOpen size paren fs)) (omega arith)
size-opened-light m size paren (kind.Sign s) fs = deep-operand m (kind.Sign s) (InParen paren ∷ (InSize size ∷ fs)) (deepest_path (SizeOpen size paren fs)) (omega arith)

pub shift-light : (least : ℕ) (m : Mark) (k : TokenKind) (s : State) → Light (deepest_path s) (shift least m k s)
shift-light least m k (BeforeOperand fs) = operand-light (deepest_path (BeforeOperand fs)) m k fs (omega arith)
shift-light least m k (Open paren fs) = opened-light least m paren k fs
shift-light least m k (Size size fs) = sized-light m size k fs
shift-light least m k (SizeOpen size paren fs) = size-opened-light m size paren k fs
shift-light least m k (Called call name fs) = called-light m call name k fs
shift-light least m k (Select n arrow b fs) = select-light (deepest_path (Select n arrow b fs)) k n arrow b fs (omega arith)
shift-light least m k (AfterOperand e fs) = after-light least m.first k e fs
shift-light least m k (Specifier fs) = specifier-light (deepest_path (Specifier fs)) m.first k fs (omega arith)
shift-light least m k (StructWord f fs) = struct-light (deepest_path (StructWord f fs)) k f fs (omega arith)
shift-light least m k (Members b fs) = members-light m.first k b fs
shift-light least m k (Declare line n fs) = declare-light (deepest_path (Declare line n fs)) m.first k line n fs (omega arith)
shift-light least m k (Dims h ds fs) = dims-light (deepest_path (Dims h ds fs)) k h ds fs (omega arith)
shift-light least m k (AfterSpec s fs) = after-spec-light (deepest_path (AfterSpec s fs)) m.first k s fs (omega arith)
