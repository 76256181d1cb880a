-- The steps of the machine through specifiers, type names and lines of members.
use Rattle.std.proofs.Common.{◌≡◌, ℕ, zero, suc, ◌+◌, List, [], ◌∷◌, ◌++◌, length, map, Bool, false, true, Option, Some, None, refl, sym, ◌∙◌, ap, subst, arith, append_assoc, append-nil}
use Rattle.std.specs.Prelude.{IsTrue}
use Rattle.ob_tree.specs.declared.tokens.TokenKind.{TokenKind}
use Rattle.ob_tree.specs.declared.tokens.TokenKind.TheVariants as kind
use Rattle.ob_tree.specs.declared.tokens.Keyword.{Keyword}
use Rattle.ob_tree.specs.declared.tokens.Keyword.TheVariants as word
use Rattle.ob_tree.specs.declared.tokens.Sign.TheVariants as sign
use Rattle.ob_tree.specs.Trees.{Mark, ExprTree, ExprTrees, TypeTree, SpecTree, MemberTrees, ObjTree, ObjTrees, DimTrees}
use Rattle.ob_tree.specs.Spelling.{stars, spell_name, spell_dims}
use Rattle.ob_tree.specs.Integers.{is_integer}
use Rattle.ob_tree.specs.Valid.{ValidDims, ValidMemberName, HasMember}
use Rattle.ob_tree.specs.Places.{width_name}
use Rattle.ob_tree.specs.ExprStates.{OfType, OfMember, StructBody, StructDeclaration, PendingNode, InCast, InType, InStruct, State, BeforeOperand, AfterOperand, Specifier, Members, Declare, Dims, AfterSpec, add_argument, add_dim, add_obj, add_member}
use Rattle.ob_tree.specs.ExprMachine.{ended, spec_word, close_struct, shift, run}
use Rattle.ob_tree.proofs.IntegerWords.{integer-part}
use Rattle.ob_tree.proofs.SignShifts.{no}
use Rattle.ob_tree.proofs.Runs.{run-then, run-from, run-shift}

-- lists one behind another
abbrev pub append_arguments : ExprTrees → ExprTrees → ExprTrees
append_arguments ExprTrees.NoArguments es = es
append_arguments (ExprTrees.Argument x xs) es = ExprTrees.Argument x (append_arguments xs es)

abbrev pub append_dims : DimTrees → DimTrees → DimTrees
append_dims DimTrees.NoDims ds = ds
append_dims (DimTrees.Unsized xs) ds = DimTrees.Unsized (append_dims xs ds)
append_dims (DimTrees.Sized x xs) ds = DimTrees.Sized x (append_dims xs ds)

abbrev pub append_objs : ObjTrees → ObjTrees → ObjTrees
append_objs ObjTrees.NoDeclarators os = os
append_objs (ObjTrees.Declarator x xs) os = ObjTrees.Declarator x (append_objs xs os)

abbrev pub append_members : MemberTrees → MemberTrees → MemberTrees
append_members MemberTrees.NoMembers ms = ms
append_members (MemberTrees.MemberLine s names xs) ms = MemberTrees.MemberLine s names (append_members xs ms)

pub arguments-add : (xs : ExprTrees) (e : ExprTree) → append_arguments xs (ExprTrees.Argument e ExprTrees.NoArguments) ≡ add_argument xs e
arguments-add ExprTrees.NoArguments e = refl
arguments-add (ExprTrees.Argument x xs) e = ap (ExprTrees.Argument x) (arguments-add xs e)

pub arguments-more : (xs : ExprTrees) (e : ExprTree) (es : ExprTrees) → append_arguments (add_argument xs e) es ≡ append_arguments xs (ExprTrees.Argument e es)
arguments-more ExprTrees.NoArguments e es = refl
arguments-more (ExprTrees.Argument x xs) e es = ap (ExprTrees.Argument x) (arguments-more xs e es)

pub dims-end : (xs : DimTrees) → append_dims xs DimTrees.NoDims ≡ xs
dims-end DimTrees.NoDims = refl
dims-end (DimTrees.Unsized xs) = ap DimTrees.Unsized (dims-end xs)
dims-end (DimTrees.Sized x xs) = ap (DimTrees.Sized x) (dims-end xs)

pub dims-more : (xs : DimTrees) (e : ExprTree) (ds : DimTrees) → append_dims (add_dim xs e) ds ≡ append_dims xs (DimTrees.Sized e ds)
dims-more DimTrees.NoDims e ds = refl
dims-more (DimTrees.Unsized xs) e ds = ap DimTrees.Unsized (dims-more xs e ds)
dims-more (DimTrees.Sized x xs) e ds = ap (DimTrees.Sized x) (dims-more xs e ds)

pub objs-add : (xs : ObjTrees) (o : ObjTree) → append_objs xs (ObjTrees.Declarator o ObjTrees.NoDeclarators) ≡ add_obj xs o
objs-add ObjTrees.NoDeclarators o = refl
objs-add (ObjTrees.Declarator x xs) o = ap (ObjTrees.Declarator x) (objs-add xs o)

pub objs-more : (xs : ObjTrees) (o : ObjTree) (os : ObjTrees) → append_objs (add_obj xs o) os ≡ append_objs xs (ObjTrees.Declarator o os)
objs-more ObjTrees.NoDeclarators o os = refl
objs-more (ObjTrees.Declarator x xs) o os = ap (ObjTrees.Declarator x) (objs-more xs o os)

pub members-end : (xs : MemberTrees) → append_members xs MemberTrees.NoMembers ≡ xs
members-end MemberTrees.NoMembers = refl
members-end (MemberTrees.MemberLine s names xs) = ap (MemberTrees.MemberLine s names) (members-end xs)

pub members-more : (xs : MemberTrees) (s : SpecTree) (names : ObjTrees) (ms : MemberTrees)
    → append_members (add_member xs s names) ms ≡ append_members xs (MemberTrees.MemberLine s names ms)
members-more MemberTrees.NoMembers s names ms = refl
members-more (MemberTrees.MemberLine t others xs) s names ms = ap (MemberTrees.MemberLine t others) (members-more xs s names ms)

-- a structure with more lines of members, a line with more names
abbrev pub more_members : StructBody → MemberTrees → StructBody
more_members b ms = record { first = b.first; tag = b.tag; members = append_members b.members ms }

abbrev pub more_names : StructDeclaration → ObjTrees → StructDeclaration
more_names l os = record { body = l.body; spec = l.spec; names = append_objs l.names os }

abbrev pub add_name : StructDeclaration → ObjTree → StructDeclaration
add_name l o = record { body = l.body; spec = l.spec; names = add_obj l.names o }

pub length-stars : (n : ℕ) → length (stars n) ≡ n
length-stars zero = refl
length-stars (suc n) = ap suc (length-stars n)

-- what the machine holds behind a member's name and brackets, and behind a type name's closing parenthesis
abbrev pub obj_state : StructDeclaration → ObjTree → List PendingNode → State
obj_state l (ObjTree.Bare n name a ds) fs = Dims (OfMember l n name a) ds fs
obj_state l (ObjTree.Initial n name a ds i) fs = Dims (OfMember l n name a) ds fs

abbrev pub type_state : Mark → Bool → TypeTree → List PendingNode → State
type_state m false t fs = BeforeOperand (InCast m t ∷ fs)
type_state m true t fs = AfterOperand (ExprTree.SizeType m t) fs

module _ (lines : ℕ → ℕ) (least : ℕ) where
  -- the words of an integer type
  pub words-run : (p f : ℕ) (xs ws : List Keyword) (fs : List PendingNode) → IsTrue (is_integer (xs ++ ws))
      → run lines least p (map kind.Word ws) (Some (AfterSpec (SpecTree.Integer f xs) fs)) ≡ Some (AfterSpec (SpecTree.Integer f (xs ++ ws)) fs)
  words-run p f xs [] fs h = ap (λ ws. Some (AfterSpec (SpecTree.Integer f ws) fs)) (sym (append-nil xs))
  words-run p f xs (w ∷ ws) fs h =
      let part : is_integer (xs ++ w ∷ []) ≡ true = integer-part xs w ws h in
      let again : IsTrue (is_integer ((xs ++ w ∷ []) ++ ws)) = subst (λ x. IsTrue (is_integer x)) (sym (append_assoc xs (w ∷ []) ws)) h in
      run-shift lines least p (kind.Word w) (map kind.Word ws) (AfterSpec (SpecTree.Integer f xs) fs) (Some (AfterSpec (SpecTree.Integer f (xs ++ w ∷ [])) fs)) (rw part refl)
      ∙ words-run (p + 1) f (xs ++ w ∷ []) ws fs again
      ∙ ap (λ x. Some (AfterSpec (SpecTree.Integer f x) fs)) (append_assoc xs (w ∷ []) ws)

  pub integer-starts : (p : ℕ) (w : Keyword) (ws : List Keyword) (fs : List PendingNode) → IsTrue (is_integer (w ∷ ws))
      → spec_word p w fs ≡ Some (AfterSpec (SpecTree.Integer p (w ∷ [])) fs)
  integer-starts p word.Char ws fs h = refl
  integer-starts p word.Short ws fs h = refl
  integer-starts p word.Int ws fs h = refl
  integer-starts p word.Long ws fs h = refl
  integer-starts p word.Signed ws fs h = refl
  integer-starts p word.Unsigned ws fs h = refl
  integer-starts p w ws fs h = no h

  pub integer-run : (p : ℕ) (ws : List Keyword) (fs : List PendingNode) → IsTrue (is_integer ws)
      → run lines least p (map kind.Word ws) (Some (Specifier fs)) ≡ Some (AfterSpec (SpecTree.Integer p ws) fs)
  integer-run p [] fs h = no h
  integer-run p (w ∷ ws) fs h =
      run-shift lines least p (kind.Word w) (map kind.Word ws) (Specifier fs) (Some (AfterSpec (SpecTree.Integer p (w ∷ [])) fs)) (integer-starts p w ws fs h)
      ∙ words-run (p + 1) p (w ∷ []) ws fs h

  -- the stars of a type name and of a member
  pub type-stars : (p : ℕ) (m : Mark) (z : Bool) (s : SpecTree) (i n : ℕ) (fs : List PendingNode)
      → run lines least p (stars n) (Some (Dims (OfType m z s i) DimTrees.NoDims fs)) ≡ Some (Dims (OfType m z s (i + n)) DimTrees.NoDims fs)
  type-stars p m z s i zero fs = let e : i + 0 ≡ i = omega arith in rw e refl
  type-stars p m z s i (suc n) fs =
      let e : i + 1 + n ≡ i + suc n = omega arith in
      type-stars (p + 1) m z s (i + 1) n fs ∙ ap (λ j. Some (Dims (OfType m z s j) DimTrees.NoDims fs)) e

  pub member-stars : (p : ℕ) (l : StructDeclaration) (i n : ℕ) (fs : List PendingNode)
      → run lines least p (stars n) (Some (Declare l i fs)) ≡ Some (Declare l (i + n) fs)
  member-stars p l i zero fs = let e : i + 0 ≡ i = omega arith in rw e refl
  member-stars p l i (suc n) fs =
      let e : i + 1 + n ≡ i + suc n = omega arith in
      member-stars (p + 1) l (i + 1) n fs ∙ ap (λ j. Some (Declare l j fs)) e

  -- Behind a whole specifier, its type name or its line of members goes on.
  pub type-on : (p n : ℕ) (s : SpecTree) (m : Mark) (z : Bool) (ds : DimTrees) (ys : List TokenKind) (fs : List PendingNode) → ValidDims ds
      → run lines least p (stars n ++ (spell_dims ds ++ kind.Sign sign.CloseParen ∷ ys)) (Some (AfterSpec s (InType m z ∷ fs)))
      ≡ run lines least p (stars n ++ (spell_dims ds ++ kind.Sign sign.CloseParen ∷ ys)) (Some (Dims (OfType m z s 0) DimTrees.NoDims fs))
  type-on p (suc n) s m z ds ys fs v = refl
  type-on p zero s m z DimTrees.NoDims ys fs v = refl
  type-on p zero s m z (DimTrees.Unsized ds) ys fs v = absurd v
  type-on p zero s m z (DimTrees.Sized e ds) ys fs v = refl

  pub line-on : (p n : ℕ) (s : SpecTree) (b : StructBody) (name : List ℕ) (ys : List TokenKind) (fs : List PendingNode)
      → run lines least p (stars n ++ kind.Name name ∷ ys) (Some (AfterSpec s (InStruct b ∷ fs)))
      ≡ run lines least p (stars n ++ kind.Name name ∷ ys) (Some (Declare (record { body = b; spec = s; names = ObjTrees.NoDeclarators }) 0 fs))
  line-on p zero s b name ys fs = refl
  line-on p (suc n) s b name ys fs = refl

  -- a member's stars and name
  pub name-run : (p : ℕ) (l : StructDeclaration) (n : ℕ) (name : List ℕ) (ys : List TokenKind) (fs : List PendingNode)
      → run lines least p (stars n ++ kind.Name name ∷ ys) (Some (Declare l 0 fs))
      ≡ run lines least (p + n + 1) ys (Some (Dims (OfMember l n name (p + n)) DimTrees.NoDims fs))
  name-run p l n name ys fs =
      let z : 0 + n ≡ n = omega arith in
      let e : p + length (stars n) ≡ p + n = omega (arith, length-stars n) in
      run-then lines least p (stars n) (kind.Name name) ys (Some (Declare l 0 fs)) (Declare l n fs) (Some (Dims (OfMember l n name (p + length (stars n))) DimTrees.NoDims fs))
      (member-stars p l 0 n fs ∙ ap (λ j. Some (Declare l j fs)) z) refl
      ∙ ap (λ q. run lines least (q + 1) ys (Some (Dims (OfMember l n name q) DimTrees.NoDims fs))) e

  -- `struct`, its tag and its opening brace
  pub struct-run : (p : ℕ) (tag : Option (List ℕ)) (ys : List TokenKind) (fs : List PendingNode)
      → run lines least p (kind.Word word.Struct ∷ (spell_name tag ++ kind.Sign sign.OpenBrace ∷ ys)) (Some (Specifier fs))
      ≡ run lines least (p + width_name tag + 2) ys (Some (Members (record { first = p; tag = tag; members = MemberTrees.NoMembers }) fs))
  struct-run p None ys fs = run-from lines least (p + 1 + 1) (p + 0 + 2) ys _ (omega arith)
  struct-run p (Some tag) ys fs = run-from lines least (p + 1 + 1 + 1) (p + 1 + 2) ys _ (omega arith)

-- the closing brace of a structure with members
pub struct-ends : (f : ℕ) (tag : Option (List ℕ)) (ms : MemberTrees) (fs : List PendingNode) → HasMember ms
    → close_struct f tag ms fs ≡ Some (AfterSpec (SpecTree.Struct f tag ms) fs)
struct-ends f tag MemberTrees.NoMembers fs h = absurd h
struct-ends f tag (MemberTrees.MemberLine s names ms) fs h = refl

-- a comma and a semicolon behind a member
pub name-comma : (least : ℕ) (m : Mark) (l : StructDeclaration) (o : ObjTree) (fs : List PendingNode) → ValidMemberName o
    → shift least m (kind.Sign sign.Comma) (obj_state l o fs) ≡ Some (Declare (add_name l o) 0 fs)
name-comma least m l (ObjTree.Bare n name a ds) fs v = refl
name-comma least m l (ObjTree.Initial n name a ds i) fs v = absurd v

pub name-semi : (least : ℕ) (m : Mark) (l : StructDeclaration) (o : ObjTree) (fs : List PendingNode) → ValidMemberName o
    → shift least m (kind.Sign sign.Semi) (obj_state l o fs) ≡ Some (Members (ended (add_name l o)) fs)
name-semi least m l (ObjTree.Bare n name a ds) fs v = refl
name-semi least m l (ObjTree.Initial n name a ds i) fs v = absurd v
