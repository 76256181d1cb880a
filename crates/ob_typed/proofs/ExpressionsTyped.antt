-- Each expression of a program (C99 6.5) is well typed, and so is what stands in it.
use Rattle.std.proofs.Common.{ℕ, Ok, Err, List, [], ◌∷◌, ◌++◌}
use Rattle.ob_tree.specs.Levels.{mark_of}
use Rattle.ob_tree.specs.Sizes.{is_complete}
use Rattle.ob_tree.specs.Trees.{DimTrees, ExprTree, ExprTrees, Mark, MemberTrees, ObjTree, ObjTrees, SpecTree, TypeTree}
use Rattle.ob_tree.specs.Trees.{DimTrees as dims, ExprTree as tree, ExprTrees as trees, MemberTrees as members, ObjTree as declarator, ObjTrees as declarators, SpecTree as spec, TypeTree as named}
use Rattle.ob_tree.specs.Types.{PlainMember, PlainType}
use Rattle.ob_tree.specs.Types.{PlainType as type}
use Rattle.ob_tree.specs.Valid.{Valid, ValidArguments, ValidDims, ValidMemberName, ValidMemberNames, ValidMembers, ValidOpenDims, ValidSpec, ValidType}
use Rattle.ob_typed.specs.Conversions.{type_of, value}
use Rattle.ob_typed.specs.Expressions.{calling, check, check_arguments, check_lengths, check_member, check_members, check_names, check_spec, check_type, meaning_of, number_from}
use Rattle.ob_typed.specs.Marks.{first_of}
use Rattle.ob_typed.specs.PostfixRules.{Argument, call_rule}
use Rattle.ob_typed.specs.Scopes.{Env, Known, among_members, find}
use Rattle.ob_typed.specs.Specifiers.{length_rule, opened, struct_place}
use Rattle.ob_typed.specs.Strings.{joined_bytes, string, string_object, string_type}
use Rattle.ob_typed.specs.WellTyped.{Around}
use Rattle.ob_typed.proofs.AssignNodes.{join_fine}
use Rattle.ob_typed.proofs.BinaryNodes.{cond_fine}
use Rattle.ob_typed.proofs.Constants.{constant_fits}
use Rattle.ob_typed.proofs.ConvertedValues.{IsChecked, number_end, value_is}
use Rattle.ob_typed.proofs.PostfixNodes.{AreChecked, IsMeant, arrow_fine, call_fine, checked_more, index_fine, member_fine, name_fine, step_fine}
use Rattle.ob_typed.proofs.StructSteps.{closing_gives, mentioned_moves, noted_body, noted_moves, opened_moves, static_moves}
use Rattle.ob_typed.proofs.UnaryNodes.{cast_fine, size_fine, unary_fine}
use Rattle.ob_typed.proofs.Walks.{Any, Fine, Gives, fine_any, gives_after, gives_by, gives_by_moved, gives_by_one, gives_by_three, gives_by_two, gives_err, gives_if, gives_map, gives_moved, gives_next, gives_ok}

-- The declarations in force are of objects at places, and of functions that are among those of the program where
-- they have a body.
pub record IsRightEnv (c : Around) (bodies : List (List ℕ)) (env : Env) : Type 0 where
  pub means : (name : List ℕ) → IsMeant c env.bodies bodies name (meaning_of (find name env.declared))

right_among : (c : Around) (bodies : List (List ℕ)) (env : Env) → IsRightEnv c bodies env → (t : PlainType) → IsRightEnv c bodies (among_members env t)
right_among c bodies env ok (type.Struct n) = record { means = ok.means }
right_among c bodies env ok type.Void = ok
right_among c bodies env ok (type.Int k) = ok
right_among c bodies env ok (type.Pointer t) = ok
right_among c bodies env ok (type.Array t n) = ok

module _ (c : Around) (bodies : List (List ℕ)) where
  string_gives : (m : Mark) (bytes : List ℕ) (k : Known) → Gives c bodies (IsChecked c) k (string m bytes k)
  string_gives m bytes k =
      gives_if c bodies (is_complete k.structs (string_type bytes))
      (λ whole. gives_moved c bodies (static_moves k (string_object m.line bytes)) (λ sound leads. (tt, tt)))
      (λ great. gives_err c bodies)

  calling_gives : (env : Env) → IsRightEnv c bodies env → (m : Mark) (name : List ℕ) (given : List Argument) (k : Known) → Gives c bodies (λ x. AreChecked c given → IsChecked c x) k (calling env m name given k)
  calling_gives env ok m name given k =
      gives_by_moved c bodies (call_rule m (number_from 0 name env.bodies) (find name env.declared) given)
      (noted_moves m name (meaning_of (find name env.declared)) k)
      (λ sound leads. when_checked (call_rule m (number_from 0 name env.bodies) (find name env.declared) given)
      (λ h. call_fine c env.bodies bodies name m (find name env.declared) given (ok.means name) (noted_body bodies m name (meaning_of (find name env.declared)) k leads.called) h))
    where
      when_checked : (a : _) → (AreChecked c given → Fine (IsChecked c) a) → Fine (λ x. AreChecked c given → IsChecked c x) a
      when_checked (Ok x) h = h
      when_checked (Err f) h = tt

  mutual
    pub check_gives : (env : Env) → IsRightEnv c bodies env → (e : ExprTree) → Valid e → (k : Known) → Gives c bodies (IsChecked c) k (check env e k)
    check_gives env ok (tree.Name m name) v k =
        gives_by c bodies _ (λ sound leads. name_fine c env.bodies bodies name m (find name env.declared) (ok.means name))
    check_gives env ok (tree.Number m z t) v k = gives_ok c bodies (constant_fits z t v)
    check_gives env ok (tree.Null m) v k = gives_ok c bodies (tt, tt)
    check_gives env ok (tree.Eof m) v k = gives_ok c bodies number_end
    check_gives env ok (tree.Str m strings) v k = string_gives m (joined_bytes strings) k
    check_gives env ok (tree.Paren m e) v k = check_gives env ok e v k
    check_gives env ok (tree.Index m a b) v k =
        gives_next c bodies (check_gives env ok a v.0 k) (λ x k1. gives_next c bodies (check_gives env ok b v.2 k1) (λ y k2.
        gives_by_two c bodies _ (λ sound leads j i. index_fine c k2.structs m (value x) (value y) leads.grows (value_is c x i) (value_is c y j))))
    check_gives env ok (tree.Call m name es) v k =
        gives_next c bodies (gives_map c bodies (λ given h. h tt) (arguments_give env ok [] es v.1 k)) (λ given k1. calling_gives env ok m name given k1)
    check_gives env ok (tree.Member m a name) v k =
        gives_next c bodies (check_gives env ok a v.0 k) (λ x k1.
        gives_by_one c bodies _ (λ sound leads i. member_fine c k1.structs m x name sound i))
    check_gives env ok (tree.Arrow m a name) v k =
        gives_next c bodies (check_gives env ok a v.0 k) (λ x k1.
        gives_by_one c bodies _ (λ sound leads i. arrow_fine c k1.structs m (value x) name sound (value_is c x i)))
    check_gives env ok (tree.Step m post down a) v k =
        gives_next c bodies (check_gives env ok a v.0 k) (λ x k1.
        gives_by_one c bodies _ (λ sound leads i. step_fine c k1.structs m post down x leads.grows i))
    check_gives env ok (tree.Unary m s a) v k =
        gives_next c bodies (check_gives env ok a v.1 k) (λ x k1.
        gives_by_one c bodies _ (λ sound leads i. unary_fine c m s x i))
    check_gives env ok (tree.SizeExpr m a) v k =
        gives_next c bodies (check_gives env ok a v.0 k) (λ x k1.
        gives_by_one c bodies _ (λ sound leads i. size_fine c k1.structs m (type_of x)))
    check_gives env ok (tree.SizeType m t) v k =
        gives_next c bodies (type_gives env ok t v k) (λ u k1.
        gives_by_one c bodies _ (λ sound leads i. size_fine c k1.structs m u))
    check_gives env ok (tree.Cast m t a) v k =
        gives_next c bodies (type_gives env ok t v.0 k) (λ u k1. gives_next c bodies (check_gives env ok a v.1 k1) (λ x k2.
        gives_by_two c bodies _ (λ sound leads i j. cast_fine c m u x i)))
    check_gives env ok (tree.Cond m z a b) v k =
        gives_next c bodies (check_gives env ok z v.0 k) (λ w k1. gives_next c bodies (check_gives env ok a v.2 k1) (λ x k2. gives_next c bodies (check_gives env ok b v.3 k2) (λ y k3.
        gives_by_three c bodies _ (λ sound leads j i h. cond_fine c m w x y h i j))))
    check_gives env ok (tree.Join m op a b) v k =
        gives_next c bodies (check_gives env ok a v.1 k) (λ x k1. gives_next c bodies (check_gives env ok b v.3 k1) (λ y k2.
        gives_by_two c bodies _ (λ sound leads j i. join_fine c k2.structs m op (first_of b) x y leads.grows i j)))

    arguments_give : (env : Env) → IsRightEnv c bodies env → (done : List Argument) (es : ExprTrees) → ValidArguments es → (k : Known) → Gives c bodies (λ given. AreChecked c done → AreChecked c given) k (check_arguments env done es k)
    arguments_give env ok done trees.NoArguments v k = gives_ok c bodies (λ h. h)
    arguments_give env ok done (trees.Argument e es) v k =
        gives_next c bodies (check_gives env ok e v.0 k) (λ x k1.
        gives_map c bodies (λ given h i j. h (checked_more c done (record { first = first_of e; is = x }) j i))
        (arguments_give env ok (done ++ record { first = first_of e; is = x } ∷ []) es v.2 k1))

    type_gives : (env : Env) → IsRightEnv c bodies env → (t : TypeTree) → ValidType t → (k : Known) → Gives c bodies {A = PlainType} Any k (check_type env t k)
    type_gives env ok (named.TypeName s stars ds) v k =
        gives_next c bodies (spec_gives env ok s v.0 k) (λ t k1. gives_next c bodies (lengths_give env ok [] ds v.1 k1) (λ ns k2.
        gives_ok c bodies (λ h i. tt)))

    pub spec_gives : (env : Env) → IsRightEnv c bodies env → (s : SpecTree) → ValidSpec s → (k : Known) → Gives c bodies {A = PlainType} Any k (check_spec env s k)
    spec_gives env ok (spec.Void first) v k = gives_ok c bodies tt
    spec_gives env ok (spec.SizeT first) v k = gives_ok c bodies tt
    spec_gives env ok (spec.Integer first words) v k = gives_ok c bodies tt
    spec_gives env ok (spec.Tag first name) v k = gives_moved c bodies (mentioned_moves name env.depth k) (λ sound leads. tt)
    spec_gives env ok (spec.Struct first tag ms) v k =
        let o = opened tag env.depth k in
        gives_after c bodies (opened_moves tag env.depth k)
        (gives_next c bodies (members_give (among_members env o.0) (right_among c bodies env ok o.0) [] ms v.2 o.1) (λ found k1.
        gives_map c bodies (λ t h i. tt) (closing_gives c bodies k1 env.around o.0 o.0 (struct_place tag first) found)))

    members_give : (env : Env) → IsRightEnv c bodies env → (done : List PlainMember) (ms : MemberTrees) → ValidMembers ms → (k : Known) → Gives c bodies {A = List PlainMember} Any k (check_members env done ms k)
    members_give env ok done members.NoMembers v k = gives_ok c bodies tt
    members_give env ok done (members.MemberLine s names rest) v k =
        gives_next c bodies (spec_gives env ok s v.0 k) (λ t k1. gives_next c bodies (names_give env ok t done names v.2 k1) (λ found k2.
        gives_map c bodies (λ all h i j. tt) (members_give env ok found rest v.3 k2)))

    names_give : (env : Env) → IsRightEnv c bodies env → (t : PlainType) (done : List PlainMember) (os : ObjTrees) → ValidMemberNames os → (k : Known) → Gives c bodies {A = List PlainMember} Any k (check_names env t done os k)
    names_give env ok t done declarators.NoDeclarators v k = gives_ok c bodies tt
    names_give env ok t done (declarators.Declarator o os) v k =
        gives_next c bodies (name_gives env ok t done o v.0 k) (λ found k1.
        gives_map c bodies (λ all h i. tt) (names_give env ok t found os v.1 k1))

    name_gives : (env : Env) → IsRightEnv c bodies env → (t : PlainType) (done : List PlainMember) (o : ObjTree) → ValidMemberName o → (k : Known) → Gives c bodies {A = List PlainMember} Any k (check_member env t done o k)
    name_gives env ok t done (declarator.Bare stars name at ds) v k =
        gives_next c bodies (lengths_give env ok [] ds v.1 k) (λ ns k1. gives_by_one c bodies _ (λ sound leads i. fine_any _))
    name_gives env ok t done (declarator.Initial stars name at ds init) v k = absurd v

    pub lengths_give : (env : Env) → IsRightEnv c bodies env → (done : List ℕ) (ds : DimTrees) → ValidDims ds → (k : Known) → Gives c bodies {A = List ℕ} Any k (check_lengths env done ds k)
    lengths_give env ok done dims.NoDims v k = gives_ok c bodies tt
    lengths_give env ok done (dims.Unsized ds) v k = absurd v
    lengths_give env ok done (dims.Sized e ds) v k =
        gives_next c bodies (check_gives env ok e v.0 k) (λ x k1. gives_next c bodies {P = Any} (gives_by c bodies (length_rule (mark_of e) (value x)) (λ sound leads. fine_any (length_rule (mark_of e) (value x)))) (λ n k2.
        gives_map c bodies (λ all h i j. tt) (lengths_give env ok (done ++ n ∷ []) ds v.2 k2)))

  -- brackets of which the first may lack its length
  pub open_lengths_give : (env : Env) → IsRightEnv c bodies env → (done : List ℕ) (ds : DimTrees) → ValidOpenDims ds → (k : Known) → Gives c bodies {A = List ℕ} Any k (check_lengths env done ds k)
  open_lengths_give env ok done dims.NoDims v k = lengths_give env ok done dims.NoDims v k
  open_lengths_give env ok done (dims.Unsized ds) v k = lengths_give env ok (done ++ 0 ∷ []) ds v k
  open_lengths_give env ok done (dims.Sized e ds) v k = lengths_give env ok done (dims.Sized e ds) v k
