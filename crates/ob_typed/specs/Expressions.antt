-- Expressions, and the specifiers and type names in them (C99 6.5, 6.7.2, 6.7.6): what each is, or its first
-- fault. The parts come first, from left to right, then the rule of the whole.
use Rattle.std.specs.Prelude.{ℕ, ◌+◌, negsuc, true, if◌then◌else◌, Option, Some, None, Ok, Err, List, [], ◌∷◌, ◌++◌}
use Rattle.std.specs.Str.{bytes_eq}
use Rattle.ob_words.specs.declared.types.IntType.TheVariants.{Int, ULong}
use Rattle.ob_tree.specs.Trees.{Mark, ExprTree, ExprTrees, TypeTree, SpecTree, MemberTrees, ObjTree, ObjTrees, DimTrees}
use Rattle.ob_tree.specs.Trees.{ExprTree as tree, ExprTrees as trees, TypeTree as named, SpecTree as spec, MemberTrees as members, ObjTree as declarator, ObjTrees as declarators, DimTrees as dims}
use Rattle.ob_tree.specs.Types.{PlainType, PlainMember, PlainStructs}
use Rattle.ob_tree.specs.Types.{PlainType as type}
use Rattle.ob_typed.specs.TypedTree.{TypedExpr as expr, TypedNode as node}
use Rattle.ob_typed.specs.Faults.{Answer, Walk, next, by}
use Rattle.ob_typed.specs.Scopes.{among_members, Known, Env, Meaning, Declared, find}
use Rattle.ob_typed.specs.Scopes.{Meaning as meaning}
use Rattle.ob_typed.specs.Conversions.{Checked, type_of, value}
use Rattle.ob_typed.specs.Conversions.{Checked as checked}
use Rattle.ob_tree.specs.Levels.{mark_of}
use Rattle.ob_typed.specs.Marks.{first_of}
use Rattle.ob_typed.specs.Strings.{joined_bytes, string}
use Rattle.ob_typed.specs.PostfixRules.{Argument, number, name_rule, index_rule, member_rule, arrow_rule, step_rule, call_rule}
use Rattle.ob_typed.specs.UnaryRules.{unary_rule, size_rule, cast_rule}
use Rattle.ob_typed.specs.BinaryRules.{cond_rule}
use Rattle.ob_typed.specs.AssignRules.{join_rule}
use Rattle.ob_typed.specs.Specifiers.{int_words, mentioned, opened, closed, struct_place, declarator_type, length_rule}
use Rattle.ob_typed.specs.Specifiers.{member_rule as member_declared}

-- the number of a function among those with a body, which are numbered in the order of these
abbrev pub number_from : (n : ℕ) → (name : List ℕ) → List (List ℕ) → ℕ
number_from n name [] = n
number_from n name (b ∷ bs) = if bytes_eq b name then n else number_from (n + 1) name bs

-- a call of a function that isn't built in, for which a body is looked for at the end
abbrev pub noted : Mark → (name : List ℕ) → Option Meaning → Known → Known
noted m name (Some (meaning.Function result params)) k =
    record { structs = k.structs; tags = k.tags; statics = k.statics; calls = k.calls ++ record { name = name; place = m.first } ∷ [] }
noted m name _ k = k

abbrev pub meaning_of : Option Declared → Option Meaning
meaning_of None = None
meaning_of (Some d) = Some d.meaning

abbrev pub calling : Env → Mark → (name : List ℕ) → List Argument → Known → Walk Known Checked
calling env m name given k =
    by (call_rule m (number_from 0 name env.bodies) (find name env.declared) given) (noted m name (meaning_of (find name env.declared)) k)

-- a rule that gives structures
abbrev pub with_structs : PlainType → Answer PlainStructs → Known → Walk Known PlainType
with_structs t (Ok structs) k = Ok (t, record { structs = structs; tags = k.tags; statics = k.statics; calls = k.calls })
with_structs t (Err f) k = Err f

abbrev mutual
  pub check : Env → ExprTree → Known → Walk Known Checked
  -- primary expressions (6.5.1)
  check env (tree.Name m name) k = by (name_rule m (find name env.declared)) k
  check env (tree.Number m z t) k = Ok (checked.Plain (number m.line t z), k)
  check env (tree.Null m) k = Ok (checked.NullPointer true (expr.Typed m.line (type.Pointer type.Void) node.Null), k)
  check env (tree.Eof m) k = Ok (checked.Plain (number m.line Int (negsuc 0)), k)
  check env (tree.Str m strings) k = string m (joined_bytes strings) k
  check env (tree.Paren m e) k = check env e k
  -- postfix operators (6.5.2)
  check env (tree.Index m a b) k =
      next (check env a k) (λ x k1. next (check env b k1) (λ y k2. by (index_rule k2.structs m (value x) (value y)) k2))
  check env (tree.Call m name es) k = next (check_arguments env [] es k) (λ given k1. calling env m name given k1)
  check env (tree.Member m a name) k = next (check env a k) (λ x k1. by (member_rule k1.structs m x name) k1)
  check env (tree.Arrow m a name) k = next (check env a k) (λ x k1. by (arrow_rule k1.structs m (value x) name) k1)
  check env (tree.Step m post down a) k = next (check env a k) (λ x k1. by (step_rule k1.structs m post down x) k1)
  -- unary operators (6.5.3) and casts (6.5.4)
  check env (tree.Unary m s a) k = next (check env a k) (λ x k1. by (unary_rule m s x) k1)
  check env (tree.SizeExpr m a) k = next (check env a k) (λ x k1. by (size_rule k1.structs m (type_of x)) k1)
  check env (tree.SizeType m t) k = next (check_type env t k) (λ u k1. by (size_rule k1.structs m u) k1)
  check env (tree.Cast m t a) k = next (check_type env t k) (λ u k1. next (check env a k1) (λ x k2. by (cast_rule m u x) k2))
  -- binary, conditional, assignment and comma operators (6.5.5 to 6.5.17)
  check env (tree.Cond m c a b) k =
      next (check env c k) (λ z k1. next (check env a k1) (λ x k2. next (check env b k2) (λ y k3. by (cond_rule m z x y) k3)))
  check env (tree.Join m op a b) k =
      next (check env a k) (λ x k1. next (check env b k1) (λ y k2. by (join_rule k2.structs m op (first_of b) x y) k2))

  -- the arguments of a call, after those before them
  pub check_arguments : Env → (done : List Argument) → ExprTrees → Known → Walk Known (List Argument)
  check_arguments env done trees.NoArguments k = Ok (done, k)
  check_arguments env done (trees.Argument e es) k =
      next (check env e k) (λ x k1. check_arguments env (done ++ record { first = first_of e; is = x } ∷ []) es k1)

  -- a type name (6.7.6)
  pub check_type : Env → TypeTree → Known → Walk Known PlainType
  check_type env (named.TypeName s stars ds) k =
      next (check_spec env s k) (λ t k1. next (check_lengths env [] ds k1) (λ ns k2. Ok (declarator_type t stars ns, k2)))

  -- a type specifier (6.7.2)
  pub check_spec : Env → SpecTree → Known → Walk Known PlainType
  check_spec env (spec.Void first) k = Ok (type.Void, k)
  check_spec env (spec.SizeT first) k = Ok (type.Int ULong, k)
  check_spec env (spec.Integer first words) k = Ok (type.Int (int_words words), k)
  check_spec env (spec.Tag first name) k = Ok (mentioned name env.depth k)
  check_spec env (spec.Struct first tag ms) k =
      let o = opened tag env.depth k in
      next (check_members (among_members env o.0) [] ms o.1) (λ found k1. with_structs o.0 (closed env.around k1.structs o.0 (struct_place tag first) found) k1)

  -- the members of a structure (6.7.2.1), after those before them
  pub check_members : Env → (done : List PlainMember) → MemberTrees → Known → Walk Known (List PlainMember)
  check_members env done members.NoMembers k = Ok (done, k)
  check_members env done (members.MemberLine s names rest) k =
      next (check_spec env s k) (λ t k1. next (check_names env t done names k1) (λ found k2. check_members env found rest k2))

  pub check_names : Env → PlainType → (done : List PlainMember) → ObjTrees → Known → Walk Known (List PlainMember)
  check_names env t done declarators.NoDeclarators k = Ok (done, k)
  check_names env t done (declarators.Declarator o os) k =
      next (check_member env t done o k) (λ found k1. check_names env t found os k1)

  pub check_member : Env → PlainType → (done : List PlainMember) → ObjTree → Known → Walk Known (List PlainMember)
  check_member env t done (declarator.Bare stars name at ds) k =
      next (check_lengths env [] ds k) (λ ns k1. by (member_declared k1.structs done (declarator_type t stars ns) name at) k1)
  check_member env t done (declarator.Initial stars name at ds init) k =
      next (check_lengths env [] ds k) (λ ns k1. by (member_declared k1.structs done (declarator_type t stars ns) name at) k1)

  -- the lengths in array brackets (6.7.5.2), after those before them
  pub check_lengths : Env → (done : List ℕ) → DimTrees → Known → Walk Known (List ℕ)
  check_lengths env done dims.NoDims k = Ok (done, k)
  check_lengths env done (dims.Unsized ds) k = check_lengths env (done ++ 0 ∷ []) ds k
  check_lengths env done (dims.Sized e ds) k = next (check env e k) (λ x k1. next (by (length_rule (mark_of e) (value x)) k1) (λ n k2. check_lengths env (done ++ n ∷ []) ds k2))
