-- A pending node with least operands for what doesn't stand there yet, and its nodes that have begun.
use Rattle.std.proofs.Common.{◌≡◌, ℕ, zero, suc, ◌+◌, ◌-◌, ◌≤◌, max, List, [], ◌∷◌, ◌++◌, length, Bool, true, false, refl, ◌∙◌, ap, arith, append_assoc, length-append}
use Rattle.ob_tree.specs.declared.tokens.TokenKind.{TokenKind}
use Rattle.ob_tree.specs.declared.tokens.TokenKind.TheVariants as kind
use Rattle.ob_tree.specs.declared.tokens.Keyword.TheVariants as word
use Rattle.ob_tree.specs.declared.tokens.Sign.TheVariants as sign
use Rattle.ob_tree.specs.Bytes.{is_letter, is_name_byte, is_digit}
use Rattle.ob_tree.specs.Trees.{Mark, ExprTree, ExprTrees, TypeTree, SpecTree, MemberTrees, ObjTree, ObjTrees, DimTrees}
use Rattle.ob_tree.specs.Spelling.{spell, spell_type, spell_spec, spell_members, spell_obj, spell_name}
use Rattle.ob_tree.specs.Valid.{ValidName, ValidArguments, ValidType, ValidSpec, ValidMembers, ValidMemberNames, ValidMemberName, ValidDims, IsOf}
use Rattle.ob_tree.specs.Places.{width, width_name, width_type, width_spec, width_objs, width_obj, width_dims}
use Rattle.ob_tree.specs.Paths.{begun, begun_arguments, begun_type, begun_spec, begun_members, begun_objs, begun_obj, begun_dims, height_arguments, height_spec, height_members, height_objs, height_dims}
use Rattle.ob_tree.specs.ExprStates.{StructBody, StructDeclaration, PendingNode, InType, top_operand_level, add_argument, add_dim, add_obj, add_member}
use Rattle.ob_exprs.specs.DeepestPaths.{count, line_height}
use Rattle.ob_exprs.proofs.Begun.{begun-full, full-spec, full-names, full-name, width-sized, width-line}
use Rattle.ob_exprs.proofs.Shapes.{spell_arguments_before, spell_objs_before, body_spell, line_spell, type_start, LineOk, PendingFits}
use Rattle.ob_exprs.proofs.Adding.{members-added, members-valid, members-some, objs-added, objs-valid, objs-some}

-- the least operand, and a name
abbrev pub leaf : ExprTree
leaf = ExprTree.Null (record { first = 0; at = 0; line = 0 })

abbrev pub x : List ℕ
x = 120 ∷ []

pub valid-x : ValidName x
unfolding is_letter is_name_byte is_digit
valid-x = (refl, omega arith)

-- what begins of lists with one item more
pub begun-argument : (es : ExprTrees) (e : ExprTree) (k j : ℕ) → ValidArguments es → k ≡ length (spell_arguments_before es) + j
    → begun_arguments (add_argument es e) k ≤ max (height_arguments es) (begun e j)
begun-argument ExprTrees.NoArguments e k j v g = let n : k ≡ j = omega arith in rw n (omega arith)
begun-argument (ExprTrees.Argument y es) e k j v g =
    let n : k ≡ width y + 1 + length (spell_arguments_before es) + j = omega (arith, length-append (spell y) (kind.Sign sign.Comma ∷ spell_arguments_before es)) in
    omega (arith, begun-full y k v.0 (omega arith), begun-argument es e (k - (width y + 1)) j v.2 (omega arith))

pub begun-dim : (ds : DimTrees) (e : ExprTree) (k j : ℕ) → ValidDims ds → k ≡ width_dims ds + 1 + j
    → begun_dims (add_dim ds e) k ≤ max (height_dims ds) (count ds + (1 + begun e j))
begun-dim DimTrees.NoDims e zero j v g = omega arith
begun-dim DimTrees.NoDims e (suc k) j v g = let n : suc k - 1 ≡ j = omega arith in rw n (omega arith)
begun-dim (DimTrees.Unsized ds) e k j v g = absurd v
begun-dim (DimTrees.Sized y ds) e zero j v g = omega arith
begun-dim (DimTrees.Sized y ds) e (suc k) j v g =
    let n : suc k ≡ width y + width_dims ds + 2 + 1 + j = omega (arith, width-sized y ds) in
    omega (arith, begun-full y (suc k - 1) v.0 (omega arith), begun-dim ds e (suc k - (width y + 2)) j v.2 (omega arith))

begun-obj : (os : ObjTrees) (o : ObjTree) (k j : ℕ) → ValidMemberNames os → k ≡ length (spell_objs_before os) + j
    → begun_objs (add_obj os o) k ≤ max (height_objs os) (begun_obj o j)
begun-obj ObjTrees.NoDeclarators o k j v g = let n : k ≡ j = omega arith in rw n (omega arith)
begun-obj (ObjTrees.Declarator y os) o k j v g =
    let n : k ≡ width_obj y + 1 + length (spell_objs_before os) + j = omega (arith, length-append (spell_obj y) (kind.Sign sign.Comma ∷ spell_objs_before os)) in
    omega (arith, full-name y k v.0 (omega arith), begun-obj os o (k - (width_obj y + 1)) j v.1 (omega arith))

pub begun-member : (ms : MemberTrees) (s : SpecTree) (names : ObjTrees) (k j : ℕ) → ValidMembers ms → k ≡ length (spell_members ms) + j
    → begun_members (add_member ms s names) k ≤ max (height_members ms) (max (begun_spec s j) (begun_objs names (j - width_spec s)))
begun-member MemberTrees.NoMembers s names k j v g = let n : k ≡ j = omega arith in rw n (omega arith)
begun-member (MemberTrees.MemberLine t others ms) s names k j v g =
    let n : k ≡ width_spec t + width_objs others + 1 + length (spell_members ms) + j = omega (arith, width-line t others ms) in
    omega (
      arith,
      full-spec t k v.0 (omega arith),
      full-names others (k - width_spec t) v.2 (omega arith),
      begun-member ms s names (k - (width_spec t + width_objs others + 1)) j v.3 (omega arith),
    )

-- a structure whose last line has one name more
abbrev pub struct_with : StructDeclaration → ObjTree → SpecTree
struct_with l o = SpecTree.Struct l.body.first l.body.tag (add_member l.body.members l.spec (add_obj l.names o))

pub length-body : (b : StructBody) → length (body_spell b) ≡ width_name b.tag + length (spell_members b.members) + 2
length-body b = omega (arith, length-append (spell_name b.tag) (kind.Sign sign.OpenBrace ∷ spell_members b.members))

pub length-line : (l : StructDeclaration) → length (line_spell l) ≡ width_name l.body.tag + length (spell_members l.body.members) + 2 + width_spec l.spec + length (spell_objs_before l.names)
length-line l = omega (arith, length-body l.body, length-append (body_spell l.body) (spell_spec l.spec ++ spell_objs_before l.names), length-append (spell_spec l.spec) (spell_objs_before l.names))

pub struct-begun : (l : StructDeclaration) (o : ObjTree) (k j : ℕ) → LineOk l → k ≡ length (line_spell l) + j → begun_spec (struct_with l o) k ≤ 1 + max (line_height l) (begun_obj o j)
struct-begun l o zero j v g = omega arith
struct-begun l o (suc k) j v g =
    let i = length (spell_objs_before l.names) + j in
    let n : suc k - (width_name l.body.tag + 2) ≡ length (spell_members l.body.members) + (width_spec l.spec + i) = omega (arith, length-line l) in
    let w : width_spec l.spec + i - width_spec l.spec ≡ i = omega arith in
    let a : begun_objs (add_obj l.names o) (width_spec l.spec + i - width_spec l.spec) ≤ max (height_objs l.names) (begun_obj o j) =
    rw w (begun-obj l.names o i j v.2 refl) in
    omega (
      arith,
      begun-member l.body.members l.spec (add_obj l.names o) (suc k - (width_name l.body.tag + 2)) (width_spec l.spec + i) v.0.1 n,
      full-spec l.spec (width_spec l.spec + i) v.1 (omega arith),
      a,
    )

pub struct-spell : (l : StructDeclaration) (o : ObjTree) → spell_spec (struct_with l o) ≡ line_spell l ++ (spell_obj o ++ kind.Sign sign.Semi ∷ (kind.Sign sign.CloseBrace ∷ []))
struct-spell l o =
    let ms = spell_members l.body.members in
    let zs = kind.Sign sign.Semi ∷ [] in
    let ends = kind.Sign sign.CloseBrace ∷ [] in
    ap (λ ks. kind.Word word.Struct ∷ (spell_name l.body.tag ++ kind.Sign sign.OpenBrace ∷ (ks ++ ends))) (members-added l.body.members l.spec (add_obj l.names o))
    ∙ ap (λ ks. kind.Word word.Struct ∷ (spell_name l.body.tag ++ kind.Sign sign.OpenBrace ∷ ((ms ++ (spell_spec l.spec ++ (ks ++ zs))) ++ ends))) (objs-added l.names o)
    ∙ ap (λ ks. kind.Word word.Struct ∷ ks) (groups (spell_name l.body.tag) (kind.Sign sign.OpenBrace ∷ []) ms (spell_spec l.spec) (spell_objs_before l.names) (spell_obj o) zs ends)
  where
    groups : (t b m s o p z e : List TokenKind) → t ++ (b ++ ((m ++ (s ++ ((o ++ p) ++ z))) ++ e)) ≡ (t ++ (b ++ m)) ++ (s ++ o) ++ (p ++ (z ++ e))
    groups t b m s o p z e = simp append_assoc

pub struct-valid : (l : StructDeclaration) (o : ObjTree) → LineOk l → ValidMemberName o → ValidSpec (struct_with l o)
struct-valid l o v w = (v.0.0, members-some l.body.members l.spec (add_obj l.names o), members-valid l.body.members l.spec (add_obj l.names o) v.0.1 v.1 (objs-some l.names o) (objs-valid l.names o v.2 w))

-- a type name with one bracket more
pub type-begun : (s : SpecTree) (n : ℕ) (ds : DimTrees) (e : ExprTree) (k j : ℕ) → ValidSpec s → ValidDims ds → k ≡ width_spec s + n + width_dims ds + 1 + j
    → begun_type (TypeTree.TypeName s n (add_dim ds e)) k ≤ max (height_spec s) (n + max (height_dims ds) (count ds + (1 + begun e j)))
type-begun s n ds e k j v w g = omega (arith, full-spec s k v (omega arith), begun-dim ds e (k - (width_spec s + n)) j w (omega arith))

-- the cast or the `sizeof` of a type name
abbrev pub type_filled : Mark → (sized : Bool) → TypeTree → ExprTree
type_filled m false t = ExprTree.Cast m t leaf
type_filled m true t = ExprTree.SizeType m t

-- the tokens behind its type name
abbrev pub type_behind : (sized : Bool) → List TokenKind
type_behind false = kind.Sign sign.CloseParen ∷ (kind.Word word.Null ∷ [])
type_behind true = kind.Sign sign.CloseParen ∷ []

pub type-filled-spell : (m : Mark) (z : Bool) (t : TypeTree) → spell (type_filled m z t) ≡ type_start z ++ (spell_type t ++ type_behind z)
type-filled-spell m false t = refl
type-filled-spell m true t = refl

pub type-filled-of : (m : Mark) (z : Bool) (t : TypeTree) (least : ℕ) (fs : List PendingNode) → ValidType t → PendingFits least fs (InType m z) → IsOf (top_operand_level least fs) (type_filled m z t)
type-filled-of m false t least fs v h = ((v, tt, omega arith), h)
type-filled-of m true t least fs v h = (v, h)

-- so many tokens of the type name were read
pub type-filled-begun : (m : Mark) (z : Bool) (t : TypeTree) (k j : ℕ) → k ≡ length (type_start z) + j → j ≤ width_type t → begun (type_filled m z t) k ≤ 1 + begun_type t j
type-filled-begun m false t zero j g h = omega arith
type-filled-begun m false t (suc k) j g h =
    let a : suc k - 1 ≡ j = omega arith in
    let b : suc k - (width_type t + 2) ≡ 0 = omega arith in
    rw (a, b) (omega arith)
type-filled-begun m true t zero j g h = omega arith
type-filled-begun m true t (suc k) j g h = let a : suc k - 2 ≡ j = omega arith in rw a (omega arith)
