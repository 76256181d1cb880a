-- An operator-precedence (shift-reduce) parser as a machine on plain data: what each token does. It reads an expression
-- or a specifier (C99 6.5, 6.7.2). Before a sign is shifted the nodes that bind tighter are reduced.
use Rattle.std.specs.Prelude.{ℕ, ◌+◌, List, [], ◌∷◌, ◌++◌, Bool, false, true, Option, Some, None, cond, ◌&&◌, nat_lt, nat_le}
use Rattle.ob_tree.specs.declared.tokens.TokenKind.{TokenKind}
use Rattle.ob_tree.specs.declared.tokens.TokenKind.TheVariants as kind
use Rattle.ob_tree.specs.declared.tokens.Keyword.{Keyword}
use Rattle.ob_tree.specs.declared.tokens.Keyword.TheVariants as word
use Rattle.ob_tree.specs.declared.tokens.Sign.{Sign}
use Rattle.ob_tree.specs.declared.tokens.Sign.TheVariants as sign
use Rattle.ob_tree.specs.Trees.{Mark, Infix, ExprTree, ExprTrees, TypeTree, SpecTree, MemberTrees, ObjTree, ObjTrees, DimTrees}
use Rattle.ob_tree.specs.Levels.{expr_level, assign_level, cond_level, or_level, cast_level, postfix_level, binary_level, is_assign, is_unary, infix_level, left_level, level_of, mark_of}
use Rattle.ob_tree.specs.Integers.{is_integer}
use Rattle.ob_tree.specs.Places.{here}
pub use Rattle.ob_tree.specs.ExprStates.{StructBody, StructDeclaration, Head, OfType, OfMember, PendingNode, InParen, InIndex, InCall, InStep, InUnary, InSize, InCast, InJoin, InThen, InElse, InLength, InType, InStruct, State, BeforeOperand, Open, Size, SizeOpen, Called, Select, AfterOperand, Specifier, StructWord, Members, Declare, Dims, AfterSpec, no_level, operand_level, right_precedence, top_operand_level, top_right_precedence, close, reduce, add_argument, add_dim, add_obj, add_member, at_sign}

-- A specifier comes.
abbrev pub is_spec_word : Keyword → Bool
is_spec_word word.Void = true
is_spec_word word.SizeT = true
is_spec_word word.Char = true
is_spec_word word.Short = true
is_spec_word word.Int = true
is_spec_word word.Long = true
is_spec_word word.Signed = true
is_spec_word word.Unsigned = true
is_spec_word word.Struct = true
is_spec_word w = false

abbrev pub spec_word : ℕ → Keyword → List PendingNode → Option State
spec_word p word.Void fs = Some (AfterSpec (SpecTree.Void p) fs)
spec_word p word.SizeT fs = Some (AfterSpec (SpecTree.SizeT p) fs)
spec_word p word.Struct fs = Some (StructWord p fs)
spec_word p w fs = cond (is_integer (w ∷ [])) (Some (AfterSpec (SpecTree.Integer p (w ∷ [])) fs)) None

abbrev pub specifier : ℕ → TokenKind → List PendingNode → Option State
specifier p (kind.Word w) fs = spec_word p w fs
specifier p k fs = None

-- An operand comes, at this mark.
abbrev pub operand_word : Mark → Keyword → List PendingNode → Option State
operand_word m word.Null fs = Some (AfterOperand (ExprTree.Null m) fs)
operand_word m word.Eof fs = Some (AfterOperand (ExprTree.Eof m) fs)
operand_word m word.Sizeof fs = Some (Size m fs)
operand_word m w fs = None

abbrev pub operand_sign : Mark → Sign → List PendingNode → Option State
operand_sign m sign.OpenParen fs = Some (Open m fs)
operand_sign m sign.PlusPlus fs = Some (BeforeOperand (InStep m false ∷ fs))
operand_sign m sign.MinusMinus fs = Some (BeforeOperand (InStep m true ∷ fs))
operand_sign m s fs = cond (is_unary s) (Some (BeforeOperand (InUnary m s ∷ fs))) None

abbrev pub operand : Mark → TokenKind → List PendingNode → Option State
operand m (kind.Name name) fs = Some (AfterOperand (ExprTree.Name m name) fs)
operand m (kind.Number value ty) fs = Some (AfterOperand (ExprTree.Number m value ty) fs)
operand m (kind.Str s) fs = Some (AfterOperand (ExprTree.Str m (s ∷ [])) fs)
operand m (kind.Word w) fs = operand_word m w fs
operand m (kind.Sign s) fs = operand_sign m s fs

-- Behind an opening parenthesis a specifier begins the type name of a cast, where a cast may stand.
abbrev pub opened_word : (least : ℕ) → Mark → Keyword → Mark → List PendingNode → Option State
opened_word least m w paren fs = cond (is_spec_word w)
    (cond (nat_le (top_operand_level least fs) cast_level) (spec_word m.first w (InType paren false ∷ fs)) None)
    (operand_word m w (InParen paren ∷ fs))

abbrev pub opened : (least : ℕ) → Mark → TokenKind → Mark → List PendingNode → Option State
opened least m (kind.Word w) paren fs = opened_word least m w paren fs
opened least m k paren fs = operand m k (InParen paren ∷ fs)

-- Behind `sizeof` an opening parenthesis may be that of a type name.
abbrev pub sized : Mark → TokenKind → Mark → List PendingNode → Option State
sized m (kind.Sign sign.OpenParen) size fs = Some (SizeOpen size m fs)
sized m k size fs = operand m k (InSize size ∷ fs)

abbrev pub size_opened_word : Mark → Keyword → (size paren : Mark) → List PendingNode → Option State
size_opened_word m w size paren fs = cond (is_spec_word w)
    (spec_word m.first w (InType size true ∷ fs))
    (operand_word m w (InParen paren ∷ (InSize size ∷ fs)))

abbrev pub size_opened : Mark → TokenKind → (size paren : Mark) → List PendingNode → Option State
size_opened m (kind.Word w) size paren fs = size_opened_word m w size paren fs
size_opened m k size paren fs = operand m k (InParen paren ∷ (InSize size ∷ fs))

-- Behind the opening parenthesis of a call: no argument, or the first one.
abbrev pub called : Mark → TokenKind → Mark → List ℕ → List PendingNode → Option State
called m (kind.Sign sign.CloseParen) call name fs = Some (AfterOperand (ExprTree.Call call name ExprTrees.NoArguments) fs)
called m k call name fs = operand m k (InCall call name ExprTrees.NoArguments ∷ fs)

-- Behind `.` and `->` comes a name.
abbrev pub selected : Mark → (arrow : Bool) → ExprTree → List ℕ → ExprTree
selected m false b name = ExprTree.Member m b name
selected m true b name = ExprTree.Arrow m b name

abbrev pub select : TokenKind → Mark → Bool → ExprTree → List PendingNode → Option State
select (kind.Name name) m arrow b fs = Some (AfterOperand (selected m arrow b name) fs)
select k m arrow b fs = None

-- A sign behind a whole operand.
abbrev pub index_to : ℕ → ExprTree → List PendingNode → Option State
index_to p e fs = cond (nat_le postfix_level (level_of e)) (Some (BeforeOperand (InIndex (at_sign (mark_of e) p) e ∷ fs))) None

abbrev pub select_to : ℕ → Bool → ExprTree → List PendingNode → Option State
select_to p arrow e fs = cond (nat_le postfix_level (level_of e)) (Some (Select (at_sign (mark_of e) p) arrow e fs)) None

abbrev pub step_to : ℕ → Bool → ExprTree → List PendingNode → Option State
step_to p down e fs = cond (nat_le postfix_level (level_of e)) (Some (AfterOperand (ExprTree.Step (at_sign (mark_of e) p) true down e) fs)) None

-- a name is called
abbrev pub call_to : ExprTree → List PendingNode → Option State
call_to (ExprTree.Name m name) fs = Some (Called m name fs)
call_to e fs = None

-- one string literal more
abbrev pub string_to : List ℕ → ExprTree → List PendingNode → Option State
string_to s (ExprTree.Str m ss) fs = Some (AfterOperand (ExprTree.Str m (ss ++ s ∷ [])) fs)
string_to s e fs = None

abbrev pub join_to : (least : ℕ) → Infix → ℕ → ExprTree × List PendingNode → Option State
join_to least op p r = cond (nat_le (left_level op) (level_of r.0) && nat_le (top_operand_level least r.1) (infix_level op))
    (Some (BeforeOperand (InJoin (at_sign (mark_of r.0) p) op r.0 ∷ r.1))) None

abbrev pub then_to : (least : ℕ) → ℕ → ExprTree × List PendingNode → Option State
then_to least p r = cond (nat_le or_level (level_of r.0) && nat_le (top_operand_level least r.1) cond_level)
    (Some (BeforeOperand (InThen (at_sign (mark_of r.0) p) r.0 ∷ r.1))) None

-- a comma ends an argument, or is an operator
abbrev pub comma_to : (least : ℕ) → ℕ → ExprTree → List PendingNode → Option State
comma_to least p e (InCall m name es ∷ fs) = Some (BeforeOperand (InCall m name (add_argument es e) ∷ fs))
comma_to least p e fs = join_to least Infix.Comma p (e, fs)

abbrev pub close_paren : ExprTree → List PendingNode → Option State
close_paren e (InParen m ∷ fs) = Some (AfterOperand (ExprTree.Paren m e) fs)
close_paren e (InCall m name es ∷ fs) = Some (AfterOperand (ExprTree.Call m name (add_argument es e)) fs)
close_paren e fs = None

abbrev pub close_bracket : ExprTree → List PendingNode → Option State
close_bracket e (InIndex m b ∷ fs) = Some (AfterOperand (ExprTree.Index m b e) fs)
close_bracket e (InLength h ds ∷ fs) = Some (Dims h (add_dim ds e) fs)
close_bracket e fs = None

abbrev pub colon_to : ExprTree → List PendingNode → Option State
colon_to e (InThen m c ∷ fs) = Some (BeforeOperand (InElse m c e ∷ fs))
colon_to e fs = None

-- an assignment operator, a binary operator, or none
abbrev pub operator_to : (least : ℕ) → ℕ → Sign → ExprTree → List PendingNode → Option State
operator_to least p s e fs = cond (is_assign s)
    (join_to least (Infix.Assign s) p (reduce assign_level e fs))
    (cond (nat_lt 0 (binary_level s)) (join_to least (Infix.Binary s) p (reduce (binary_level s) e fs)) None)

abbrev pub after_sign : (least : ℕ) → ℕ → Sign → ExprTree → List PendingNode → Option State
after_sign least p sign.OpenBracket e fs = index_to p e fs
after_sign least p sign.OpenParen e fs = call_to e fs
after_sign least p sign.Dot e fs = select_to p false e fs
after_sign least p sign.Arrow e fs = select_to p true e fs
after_sign least p sign.PlusPlus e fs = step_to p false e fs
after_sign least p sign.MinusMinus e fs = step_to p true e fs
after_sign least p sign.Question e fs = then_to least p (reduce cond_level e fs)
after_sign least p sign.Comma e fs = comma_to least p (reduce expr_level e fs).0 (reduce expr_level e fs).1
after_sign least p sign.CloseParen e fs = close_paren (reduce expr_level e fs).0 (reduce expr_level e fs).1
after_sign least p sign.CloseBracket e fs = close_bracket (reduce expr_level e fs).0 (reduce expr_level e fs).1
after_sign least p sign.Colon e fs = colon_to (reduce expr_level e fs).0 (reduce expr_level e fs).1
after_sign least p s e fs = operator_to least p s e fs

abbrev pub after : (least : ℕ) → ℕ → TokenKind → ExprTree → List PendingNode → Option State
after least p (kind.Sign s) e fs = after_sign least p s e fs
after least p (kind.Str s) e fs = string_to s e fs
after least p k e fs = None

-- the line with one name more, and the structure with one line more
abbrev pub named : StructDeclaration → (stars : ℕ) → List ℕ → (at : ℕ) → DimTrees → StructDeclaration
named l n name a ds = record { body = l.body; spec = l.spec; names = add_obj l.names (ObjTree.Bare n name a ds) }

abbrev pub ended : StructDeclaration → StructBody
ended l = record { first = l.body.first; tag = l.body.tag; members = add_member l.body.members l.spec l.names }

-- A sign behind a row of brackets.
abbrev pub more_stars : Head → DimTrees → List PendingNode → Option State
more_stars (OfType m z s n) DimTrees.NoDims fs = Some (Dims (OfType m z s (n + 1)) DimTrees.NoDims fs)
more_stars h ds fs = None

abbrev pub close_type : Head → DimTrees → List PendingNode → Option State
close_type (OfType m false s n) ds fs = Some (BeforeOperand (InCast m (TypeTree.TypeName s n ds) ∷ fs))
close_type (OfType m true s n) ds fs = Some (AfterOperand (ExprTree.SizeType m (TypeTree.TypeName s n ds)) fs)
close_type h ds fs = None

abbrev pub next_name : Head → DimTrees → List PendingNode → Option State
next_name (OfMember l n name a) ds fs = Some (Declare (named l n name a ds) 0 fs)
next_name h ds fs = None

abbrev pub end_line : Head → DimTrees → List PendingNode → Option State
end_line (OfMember l n name a) ds fs = Some (Members (ended (named l n name a ds)) fs)
end_line h ds fs = None

abbrev pub dims_sign : Sign → Head → DimTrees → List PendingNode → Option State
dims_sign sign.OpenBracket h ds fs = Some (BeforeOperand (InLength h ds ∷ fs))
dims_sign sign.Star h ds fs = more_stars h ds fs
dims_sign sign.CloseParen h ds fs = close_type h ds fs
dims_sign sign.Comma h ds fs = next_name h ds fs
dims_sign sign.Semi h ds fs = end_line h ds fs
dims_sign s h ds fs = None

abbrev pub after_dims : TokenKind → Head → DimTrees → List PendingNode → Option State
after_dims (kind.Sign s) h ds fs = dims_sign s h ds fs
after_dims k h ds fs = None

-- A member's star, or its name at place p.
abbrev pub declare : ℕ → TokenKind → StructDeclaration → ℕ → List PendingNode → Option State
declare p (kind.Sign sign.Star) l n fs = Some (Declare l (n + 1) fs)
declare p (kind.Name name) l n fs = Some (Dims (OfMember l n name p) DimTrees.NoDims fs)
declare p k l n fs = None

-- What is behind the specifier of a type name or of a line of members.
abbrev pub spec_under : ℕ → TokenKind → SpecTree → List PendingNode → Option State
spec_under p k s (InType m z ∷ fs) = after_dims k (OfType m z s 0) DimTrees.NoDims fs
spec_under p k s (InStruct b ∷ fs) = declare p k (record { body = b; spec = s; names = ObjTrees.NoDeclarators }) 0 fs
spec_under p k s fs = None

-- one word more of an integer type
abbrev pub word_to : Keyword → SpecTree → List PendingNode → Option State
word_to w (SpecTree.Integer f words) fs = cond (is_integer (words ++ w ∷ [])) (Some (AfterSpec (SpecTree.Integer f (words ++ w ∷ [])) fs)) None
word_to w s fs = None

-- the members of a structure with a tag begin
abbrev pub brace_to : SpecTree → List PendingNode → Option State
brace_to (SpecTree.Tag f tag) fs = Some (Members (record { first = f; tag = Some tag; members = MemberTrees.NoMembers }) fs)
brace_to s fs = None

abbrev pub after_spec : ℕ → TokenKind → SpecTree → List PendingNode → Option State
after_spec p (kind.Word w) s fs = word_to w s fs
after_spec p (kind.Sign sign.OpenBrace) s fs = brace_to s fs
after_spec p k s fs = spec_under p k s fs

-- Behind `struct` comes a tag, or the opening brace of its members.
abbrev pub struct_to : TokenKind → ℕ → List PendingNode → Option State
struct_to (kind.Name tag) f fs = Some (AfterSpec (SpecTree.Tag f tag) fs)
struct_to (kind.Sign sign.OpenBrace) f fs = Some (Members (record { first = f; tag = None; members = MemberTrees.NoMembers }) fs)
struct_to k f fs = None

-- A closing brace stands behind at least one line of members.
abbrev pub close_struct : ℕ → Option (List ℕ) → MemberTrees → List PendingNode → Option State
close_struct f tag MemberTrees.NoMembers fs = None
close_struct f tag (MemberTrees.MemberLine s names ms) fs = Some (AfterSpec (SpecTree.Struct f tag (MemberTrees.MemberLine s names ms)) fs)

abbrev pub members_to : ℕ → TokenKind → StructBody → List PendingNode → Option State
members_to p (kind.Sign sign.CloseBrace) b fs = close_struct b.first b.tag b.members fs
members_to p k b fs = specifier p k (InStruct b ∷ fs)

-- the next token, of this kind; the mark is that of a node that begins with it
abbrev pub shift : (least : ℕ) → Mark → TokenKind → State → Option State
shift least m k (BeforeOperand fs) = operand m k fs
shift least m k (Open paren fs) = opened least m k paren fs
shift least m k (Size size fs) = sized m k size fs
shift least m k (SizeOpen size paren fs) = size_opened m k size paren fs
shift least m k (Called call name fs) = called m k call name fs
shift least m k (Select n arrow b fs) = select k n arrow b fs
shift least m k (AfterOperand e fs) = after least m.first k e fs
shift least m k (Specifier fs) = specifier m.first k fs
shift least m k (StructWord f fs) = struct_to k f fs
shift least m k (Members b fs) = members_to m.first k b fs
shift least m k (Declare l n fs) = declare m.first k l n fs
shift least m k (Dims h ds fs) = after_dims k h ds fs
shift least m k (AfterSpec s fs) = after_spec m.first k s fs

abbrev pub shift_if : (least : ℕ) → Mark → TokenKind → Option State → Option State
shift_if least m k None = None
shift_if least m k (Some s) = shift least m k s

-- tokens of these kinds, the first at place p
abbrev pub run : (lines : ℕ → ℕ) → (least : ℕ) → (p : ℕ) → List TokenKind → Option State → Option State
run lines least p [] s = s
run lines least p (k ∷ ks) s = run lines least (p + 1) ks (shift_if least (here lines p) k s)

-- the whole expression, where nothing is open
abbrev pub whole_of : ExprTree × List PendingNode → Option ExprTree
whole_of (e, []) = Some e
whole_of (e, f ∷ fs) = None

abbrev pub finish : State → Option ExprTree
finish (AfterOperand e fs) = whole_of (reduce expr_level e fs)
finish s = None

-- the whole specifier, where nothing is open
abbrev pub spec_of : SpecTree → List PendingNode → Option SpecTree
spec_of s [] = Some s
spec_of s (f ∷ fs) = None

abbrev pub finish_spec : State → Option SpecTree
finish_spec (AfterSpec s fs) = spec_of s fs
finish_spec s = None
