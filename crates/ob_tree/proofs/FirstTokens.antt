-- What expressions and specifiers begin with, and that the machine tells them apart by it.
use Rattle.std.proofs.Common.{◌≡◌, ℕ, suc, ◌+◌, ◌≤◌, ◌⊎◌, inl, inr, List, [], ◌∷◌, ◌++◌, map, take, Bool, true, false, Some, refl, sym, ◌∙◌, ap, arith}
use Rattle.std.specs.Prelude.{IsTrue}
use Rattle.ob_tree.specs.declared.tokens.TokenKind.{TokenKind}
use Rattle.ob_tree.specs.declared.tokens.TokenKind.TheVariants as kind
use Rattle.ob_tree.specs.declared.tokens.Keyword.{Keyword}
use Rattle.ob_tree.specs.declared.tokens.Keyword.TheVariants as word
use Rattle.ob_tree.specs.declared.tokens.Sign.{Sign}
use Rattle.ob_tree.specs.declared.tokens.Sign.TheVariants as sign
use Rattle.ob_tree.specs.Trees.{Mark, ExprTree, ExprTrees, SpecTree}
use Rattle.ob_tree.specs.Spelling.{spell, spell_arguments, spell_type, spell_spec, spell_members, spell_name, infix_sign, step_sign}
use Rattle.ob_tree.specs.Integers.{is_integer}
use Rattle.ob_tree.specs.Levels.{is_unary, level_of}
use Rattle.ob_tree.specs.Valid.{Valid, ValidSpec}
use Rattle.ob_tree.specs.Places.{here}
use Rattle.ob_tree.specs.ExprStates.{PendingNode, InParen, InCall, InSize, InType, InStruct, StructBody, BeforeOperand, Open, Size, SizeOpen, Called, Specifier, Members, top_operand_level}
use Rattle.ob_tree.specs.ExprMachine.{operand, opened, size_opened, sized, called, members_to, specifier, is_spec_word, run}
use Rattle.ob_tree.proofs.Unreduced.{le-yes, infix-most}
use Rattle.ob_tree.proofs.SignShifts.{no}

-- an operand can begin so
abbrev pub BeginsOperand : TokenKind → Type 0
BeginsOperand (kind.Word w) = is_spec_word w ≡ false
BeginsOperand (kind.Sign sign.CloseParen) = ⊥
BeginsOperand k = Unit {0}

-- The spelling begins with a token of this sort.
pub record FirstOf (Fits : TokenKind → Type 0) (tokens : List TokenKind) : Type 0 where
  pub token : TokenKind
  pub rest : List TokenKind
  pub are : tokens ≡ token ∷ rest
  pub fits : Fits token

pub first-more : (Fits : TokenKind → Type 0) (tokens more : List TokenKind) → FirstOf Fits tokens → FirstOf Fits (tokens ++ more)
first-more Fits tokens more f = record { token = f.token; rest = f.rest ++ more; are = ap (λ ks. ks ++ more) f.are; fits = f.fits }

shift-begins : (down : Bool) → BeginsOperand (kind.Sign (step_sign down))
shift-begins false = tt
shift-begins true = tt

unary-begins : (s : Sign) → IsTrue (is_unary s) → BeginsOperand (kind.Sign s)
unary-begins sign.CloseParen h = no h
unary-begins s h = tt

strings-begin : (ss : List (List ℕ)) (m : Mark) → Valid (ExprTree.Str m ss) → FirstOf BeginsOperand (map kind.Str ss)
strings-begin [] m v = absurd v
strings-begin (s ∷ ss) m v = record { token = kind.Str s; rest = map kind.Str ss; are = refl; fits = tt }

pub first-operand : (t : ExprTree) → Valid t → FirstOf BeginsOperand (spell t)
first-operand (ExprTree.Name m name) v = record { token = kind.Name name; rest = []; are = refl; fits = tt }
first-operand (ExprTree.Number m value ty) v = record { token = kind.Number value ty; rest = []; are = refl; fits = tt }
first-operand (ExprTree.Null m) v = record { token = kind.Word word.Null; rest = []; are = refl; fits = refl }
first-operand (ExprTree.Eof m) v = record { token = kind.Word word.Eof; rest = []; are = refl; fits = refl }
first-operand (ExprTree.Str m ss) v = strings-begin ss m v
first-operand (ExprTree.Paren m e) v =
    record { token = kind.Sign sign.OpenParen; rest = spell e ++ kind.Sign sign.CloseParen ∷ []; are = refl; fits = tt }
first-operand (ExprTree.Index m b i) v =
    first-more BeginsOperand (spell b) (kind.Sign sign.OpenBracket ∷ (spell i ++ kind.Sign sign.CloseBracket ∷ [])) (first-operand b v.0)
first-operand (ExprTree.Call m name es) v =
    record { token = kind.Name name; rest = kind.Sign sign.OpenParen ∷ (spell_arguments es ++ kind.Sign sign.CloseParen ∷ []); are = refl; fits = tt }
first-operand (ExprTree.Member m b name) v =
    first-more BeginsOperand (spell b) (kind.Sign sign.Dot ∷ (kind.Name name ∷ [])) (first-operand b v.0)
first-operand (ExprTree.Arrow m b name) v =
    first-more BeginsOperand (spell b) (kind.Sign sign.Arrow ∷ (kind.Name name ∷ [])) (first-operand b v.0)
first-operand (ExprTree.Step m false down e) v =
    record { token = kind.Sign (step_sign down); rest = spell e; are = refl; fits = shift-begins down }
first-operand (ExprTree.Step m true down e) v = first-more BeginsOperand (spell e) (kind.Sign (step_sign down) ∷ []) (first-operand e v.0)
first-operand (ExprTree.Unary m s e) v = record { token = kind.Sign s; rest = spell e; are = refl; fits = unary-begins s v.0 }
first-operand (ExprTree.SizeExpr m e) v = record { token = kind.Word word.Sizeof; rest = spell e; are = refl; fits = refl }
first-operand (ExprTree.SizeType m t) v =
    record { token = kind.Word word.Sizeof; rest = kind.Sign sign.OpenParen ∷ (spell_type t ++ kind.Sign sign.CloseParen ∷ []); are = refl; fits = refl }
first-operand (ExprTree.Cast m t e) v =
    record { token = kind.Sign sign.OpenParen; rest = spell_type t ++ kind.Sign sign.CloseParen ∷ spell e; are = refl; fits = tt }
first-operand (ExprTree.Cond m c x y) v =
    first-more BeginsOperand (spell c) (kind.Sign sign.Question ∷ (spell x ++ kind.Sign sign.Colon ∷ spell y)) (first-operand c v.0)
first-operand (ExprTree.Join m op l r) v = first-more BeginsOperand (spell l) (kind.Sign (infix_sign op) ∷ spell r) (first-operand l v.1)

-- Behind an opening parenthesis that may be one of a cast, an operand is read as behind any other.
pub opened-operand : (least : ℕ) (m paren : Mark) (k : TokenKind) (fs : List PendingNode) → BeginsOperand k
    → opened least m k paren fs ≡ operand m k (InParen paren ∷ fs)
opened-operand least m paren (kind.Word w) fs b = rw b refl
opened-operand least m paren (kind.Name name) fs b = refl
opened-operand least m paren (kind.Number value ty) fs b = refl
opened-operand least m paren (kind.Str s) fs b = refl
opened-operand least m paren (kind.Sign s) fs b = refl

pub size-opened-operand : (m size paren : Mark) (k : TokenKind) (fs : List PendingNode) → BeginsOperand k
    → size_opened m k size paren fs ≡ operand m k (InParen paren ∷ (InSize size ∷ fs))
size-opened-operand m size paren (kind.Word w) fs b = rw b refl
size-opened-operand m size paren (kind.Name name) fs b = refl
size-opened-operand m size paren (kind.Number value ty) fs b = refl
size-opened-operand m size paren (kind.Str s) fs b = refl
size-opened-operand m size paren (kind.Sign s) fs b = refl

pub called-operand : (m call : Mark) (name : List ℕ) (k : TokenKind) (fs : List PendingNode) → BeginsOperand k
    → called m k call name fs ≡ operand m k (InCall call name ExprTrees.NoArguments ∷ fs)
called-operand m call name (kind.Sign sign.CloseParen) fs b = absurd b
called-operand m call name (kind.Sign s) fs b = refl
called-operand m call name k fs b = refl

-- What a unary expression begins with: a token that is no opening parenthesis, or one and a token behind it
-- that begins an operand.
abbrev pub NoParen : TokenKind → Type 0
NoParen (kind.Sign sign.OpenParen) = ⊥
NoParen k = Unit {0}

pub record ParenFirst (tokens : List TokenKind) : Type 0 where
  pub token : TokenKind
  pub rest : List TokenKind
  pub are : tokens ≡ kind.Sign sign.OpenParen ∷ (token ∷ rest)
  pub begins : BeginsOperand token

abbrev pub UnaryFirst : List TokenKind → Type 0
UnaryFirst tokens = FirstOf NoParen tokens ⊎ ParenFirst tokens

unary-more : (tokens more : List TokenKind) → UnaryFirst tokens → UnaryFirst (tokens ++ more)
unary-more tokens more (inl f) = inl (first-more NoParen tokens more f)
unary-more tokens more (inr f) = inr (record { token = f.token; rest = f.rest ++ more; are = ap (λ ks. ks ++ more) f.are; begins = f.begins })

paren-first : (tokens : List TokenKind) → FirstOf BeginsOperand tokens → ParenFirst (kind.Sign sign.OpenParen ∷ (tokens ++ kind.Sign sign.CloseParen ∷ []))
paren-first tokens f = record {
  token = f.token;
  rest = f.rest ++ kind.Sign sign.CloseParen ∷ [];
  are = ap (λ ks. kind.Sign sign.OpenParen ∷ (ks ++ kind.Sign sign.CloseParen ∷ [])) f.are;
  begins = f.fits;
}

shift-no-paren : (down : Bool) → NoParen (kind.Sign (step_sign down))
shift-no-paren false = tt
shift-no-paren true = tt

unary-no-paren : (s : Sign) → IsTrue (is_unary s) → NoParen (kind.Sign s)
unary-no-paren sign.OpenParen h = no h
unary-no-paren s h = tt

strings-first : (ss : List (List ℕ)) (m : Mark) → Valid (ExprTree.Str m ss) → FirstOf NoParen (map kind.Str ss)
strings-first [] m v = absurd v
strings-first (s ∷ ss) m v = record { token = kind.Str s; rest = map kind.Str ss; are = refl; fits = tt }

pub first-unary : (t : ExprTree) → Valid t → 14 ≤ level_of t → UnaryFirst (spell t)
first-unary (ExprTree.Name m name) v h = inl (record { token = kind.Name name; rest = []; are = refl; fits = tt })
first-unary (ExprTree.Number m value ty) v h = inl (record { token = kind.Number value ty; rest = []; are = refl; fits = tt })
first-unary (ExprTree.Null m) v h = inl (record { token = kind.Word word.Null; rest = []; are = refl; fits = tt })
first-unary (ExprTree.Eof m) v h = inl (record { token = kind.Word word.Eof; rest = []; are = refl; fits = tt })
first-unary (ExprTree.Str m ss) v h = inl (strings-first ss m v)
first-unary (ExprTree.Paren m e) v h = inr (paren-first (spell e) (first-operand e v))
first-unary (ExprTree.Index m b i) v h =
    unary-more (spell b) (kind.Sign sign.OpenBracket ∷ (spell i ++ kind.Sign sign.CloseBracket ∷ [])) (first-unary b v.0 (omega (arith, v.1)))
first-unary (ExprTree.Call m name es) v h =
    inl (record { token = kind.Name name; rest = kind.Sign sign.OpenParen ∷ (spell_arguments es ++ kind.Sign sign.CloseParen ∷ []); are = refl; fits = tt })
first-unary (ExprTree.Member m b name) v h =
    unary-more (spell b) (kind.Sign sign.Dot ∷ (kind.Name name ∷ [])) (first-unary b v.0 (omega (arith, v.1)))
first-unary (ExprTree.Arrow m b name) v h =
    unary-more (spell b) (kind.Sign sign.Arrow ∷ (kind.Name name ∷ [])) (first-unary b v.0 (omega (arith, v.1)))
first-unary (ExprTree.Step m false down e) v h =
    inl (record { token = kind.Sign (step_sign down); rest = spell e; are = refl; fits = shift-no-paren down })
first-unary (ExprTree.Step m true down e) v h =
    unary-more (spell e) (kind.Sign (step_sign down) ∷ []) (first-unary e v.0 (omega (arith, v.1)))
first-unary (ExprTree.Unary m s e) v h = inl (record { token = kind.Sign s; rest = spell e; are = refl; fits = unary-no-paren s v.0 })
first-unary (ExprTree.SizeExpr m e) v h = inl (record { token = kind.Word word.Sizeof; rest = spell e; are = refl; fits = tt })
first-unary (ExprTree.SizeType m t) v h =
    inl (record { token = kind.Word word.Sizeof; rest = kind.Sign sign.OpenParen ∷ (spell_type t ++ kind.Sign sign.CloseParen ∷ []); are = refl; fits = tt })
first-unary (ExprTree.Cast m t e) v h = absurd (omega arith)
first-unary (ExprTree.Cond m c x y) v h = absurd (omega arith)
first-unary (ExprTree.Join m op l r) v h = absurd (omega (arith, infix-most op))

pub sized-operand : (m size : Mark) (k : TokenKind) (fs : List PendingNode) → NoParen k → sized m k size fs ≡ operand m k (InSize size ∷ fs)
sized-operand m size (kind.Sign sign.OpenParen) fs n = absurd n
sized-operand m size (kind.Sign s) fs n = refl
sized-operand m size k fs n = refl

-- What a specifier begins with.
abbrev pub BeginsSpec : TokenKind → Type 0
BeginsSpec (kind.Word w) = is_spec_word w ≡ true
BeginsSpec k = ⊥

integer-begins : (w : Keyword) (ws : List Keyword) → IsTrue (is_integer (w ∷ ws)) → is_spec_word w ≡ true
integer-begins word.Char ws h = refl
integer-begins word.Short ws h = refl
integer-begins word.Int ws h = refl
integer-begins word.Long ws h = refl
integer-begins word.Signed ws h = refl
integer-begins word.Unsigned ws h = refl
integer-begins w ws h = no h

words-begin : (ws : List Keyword) → IsTrue (is_integer ws) → FirstOf BeginsSpec (map kind.Word ws)
words-begin [] h = no h
words-begin (w ∷ ws) h = record { token = kind.Word w; rest = map kind.Word ws; are = refl; fits = integer-begins w ws h }

pub first-spec : (s : SpecTree) → ValidSpec s → FirstOf BeginsSpec (spell_spec s)
first-spec (SpecTree.Void f) v = record { token = kind.Word word.Void; rest = []; are = refl; fits = refl }
first-spec (SpecTree.SizeT f) v = record { token = kind.Word word.SizeT; rest = []; are = refl; fits = refl }
first-spec (SpecTree.Integer f ws) v = words-begin ws v
first-spec (SpecTree.Tag f tag) v = record { token = kind.Word word.Struct; rest = kind.Name tag ∷ []; are = refl; fits = refl }
first-spec (SpecTree.Struct f tag ms) v = record {
  token = kind.Word word.Struct;
  rest = spell_name tag ++ kind.Sign sign.OpenBrace ∷ (spell_members ms ++ kind.Sign sign.CloseBrace ∷ []);
  are = refl;
  fits = refl;
}

pub opened-spec : (least : ℕ) (m paren : Mark) (k : TokenKind) (fs : List PendingNode) → BeginsSpec k → top_operand_level least fs ≤ 13
    → opened least m k paren fs ≡ specifier m.first k (InType paren false ∷ fs)
opened-spec least m paren (kind.Word w) fs b h = rw (b, le-yes (top_operand_level least fs) 13 h) refl
opened-spec least m paren (kind.Name name) fs b h = absurd b
opened-spec least m paren (kind.Number value ty) fs b h = absurd b
opened-spec least m paren (kind.Str s) fs b h = absurd b
opened-spec least m paren (kind.Sign s) fs b h = absurd b

pub size-opened-spec : (m size paren : Mark) (k : TokenKind) (fs : List PendingNode) → BeginsSpec k
    → size_opened m k size paren fs ≡ specifier m.first k (InType size true ∷ fs)
size-opened-spec m size paren (kind.Word w) fs b = rw b refl
size-opened-spec m size paren (kind.Name name) fs b = absurd b
size-opened-spec m size paren (kind.Number value ty) fs b = absurd b
size-opened-spec m size paren (kind.Str s) fs b = absurd b
size-opened-spec m size paren (kind.Sign s) fs b = absurd b

pub members-spec : (p : ℕ) (k : TokenKind) (b : StructBody) (fs : List PendingNode) → BeginsSpec k → members_to p k b fs ≡ specifier p k (InStruct b ∷ fs)
members-spec p (kind.Word w) b fs h = refl
members-spec p (kind.Name name) b fs h = absurd h
members-spec p (kind.Number value ty) b fs h = absurd h
members-spec p (kind.Str s) b fs h = absurd h
members-spec p (kind.Sign s) b fs h = absurd h

-- what is read of a spelling, where it isn't nothing, begins as the spelling does
pub first-take : (Fits : TokenKind → Type 0) (k : ℕ) (tokens : List TokenKind) → FirstOf Fits tokens → FirstOf Fits (take (suc k) tokens)
first-take Fits k tokens f = record { token = f.token; rest = take k f.rest; are = ap (take (suc k)) f.are; fits = f.fits }

pub paren-take : (k : ℕ) (tokens : List TokenKind) → ParenFirst tokens → ParenFirst (take (suc (suc k)) tokens)
paren-take k tokens f = record { token = f.token; rest = take k f.rest; are = ap (take (suc (suc k))) f.are; begins = f.begins }

-- Runs over what begins so.
module _ (lines : ℕ → ℕ) (least p : ℕ) where
  pub open-list : (paren : Mark) (ks : List TokenKind) (fs : List PendingNode) → FirstOf BeginsOperand ks
      → run lines least p ks (Some (Open paren fs)) ≡ run lines least p ks (Some (BeforeOperand (InParen paren ∷ fs)))
  open-list paren ks fs f =
      rw f.are (ap (λ o. run lines least (p + 1) f.rest o) (opened-operand least (here lines p) paren f.token fs f.fits))

  pub call-list : (call : Mark) (name : List ℕ) (ks : List TokenKind) (fs : List PendingNode) → FirstOf BeginsOperand ks
      → run lines least p ks (Some (Called call name fs)) ≡ run lines least p ks (Some (BeforeOperand (InCall call name ExprTrees.NoArguments ∷ fs)))
  call-list call name ks fs f =
      rw f.are (ap (λ o. run lines least (p + 1) f.rest o) (called-operand (here lines p) call name f.token fs f.fits))

  pub size-list : (size : Mark) (ks : List TokenKind) (fs : List PendingNode) → UnaryFirst ks
      → run lines least p ks (Some (Size size fs)) ≡ run lines least p ks (Some (BeforeOperand (InSize size ∷ fs)))
  size-list size ks fs (inl f) =
      rw f.are (ap (λ o. run lines least (p + 1) f.rest o) (sized-operand (here lines p) size f.token fs f.fits))
  size-list size ks fs (inr f) =
      let m = here lines (p + 1) in
      rw f.are (
      ap (λ o. run lines least (p + 1 + 1) f.rest o) (size-opened-operand m size (here lines p) f.token fs f.begins)
      ∙ ap (λ o. run lines least (p + 1 + 1) f.rest o) (sym (opened-operand least m (here lines p) f.token (InSize size ∷ fs) f.begins))
      )

  pub open-spec-list : (paren : Mark) (ks : List TokenKind) (fs : List PendingNode) → FirstOf BeginsSpec ks → top_operand_level least fs ≤ 13
      → run lines least p ks (Some (Open paren fs)) ≡ run lines least p ks (Some (Specifier (InType paren false ∷ fs)))
  open-spec-list paren ks fs f h =
      rw f.are (ap (λ o. run lines least (p + 1) f.rest o) (opened-spec least (here lines p) paren f.token fs f.fits h))

  pub size-spec-list : (size paren : Mark) (ks : List TokenKind) (fs : List PendingNode) → FirstOf BeginsSpec ks
      → run lines least p ks (Some (SizeOpen size paren fs)) ≡ run lines least p ks (Some (Specifier (InType size true ∷ fs)))
  size-spec-list size paren ks fs f =
      rw f.are (ap (λ o. run lines least (p + 1) f.rest o) (size-opened-spec (here lines p) size paren f.token fs f.fits))

  pub members-list : (b : StructBody) (ks : List TokenKind) (fs : List PendingNode) → FirstOf BeginsSpec ks
      → run lines least p ks (Some (Members b fs)) ≡ run lines least p ks (Some (Specifier (InStruct b ∷ fs)))
  members-list b ks fs f =
      rw f.are (ap (λ o. run lines least (p + 1) f.rest o) (members-spec p f.token b fs f.fits))
