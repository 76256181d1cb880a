-- Declarations of objects (C99 6.7): the declarator of each, its own faults, then its initialiser. An object is
-- known from its declarator on. A static object has its number from its name on, so that it comes before the
-- string literals in its brackets and in its initialiser.
use Rattle.std.specs.Prelude.{ℕ, zero, Bool, true, false, if◌then◌else◌, Some, Ok, Err, List, [], ◌∷◌, ◌++◌, length, slice_set}
use Rattle.ob_tree.specs.declared.faults.TypeKind.TheVariants as kind
use Rattle.ob_tree.specs.Trees.{ObjTree, ObjTrees, SpecTree}
use Rattle.ob_tree.specs.Trees.{ObjTree as declarator, ObjTrees as declarators, SpecTree as spec}
use Rattle.ob_tree.specs.Programs.{LocalTree}
use Rattle.ob_tree.specs.Types.{PlainType, PlainStructs}
use Rattle.ob_tree.specs.Types.{PlainType as type}
use Rattle.ob_typed.specs.declared.names.VarName.{VarName}
use Rattle.ob_typed.specs.TypedTree.{TypedInit, TypedLean, TypedStmt, TypedObject, PlainImage}
use Rattle.ob_typed.specs.TypedTree.{TypedLean as lean, TypedStmt as stmt}
use Rattle.ob_typed.specs.Faults.{Answer, Walk, fault, next, by, then_rule, inside}
use Rattle.ob_typed.specs.Scopes.{Known, Env, Declared, declaring, find, is_at}
use Rattle.ob_typed.specs.Scopes.{Meaning as meaning}
use Rattle.ob_typed.specs.Specifiers.{declarator_type, object_type, opened}
use Rattle.ob_typed.specs.Strings.{with_static}
use Rattle.ob_typed.specs.Expressions.{check_spec, check_lengths}
use Rattle.ob_typed.specs.Images.{image, no_image}
use Rattle.ob_typed.specs.Initialisers.{check_init, completed, foreseen}

-- what the statements of a function add to, besides what expressions do: the types and the names of its
-- automatic objects, which begin with the parameters
pub record Body : Type 0 where
  pub known : Known
  pub locals : List PlainType
  pub names : List VarName

abbrev pub with_known : Known → Body → Body
with_known k b = record { known = k; locals = b.locals; names = b.names }

-- a walk of an expression, in a function
abbrev pub in_body : {A : Type 0} → Body → Walk Known A → Walk Body A
in_body b w = inside with_known b w

abbrev pub named : (name : List ℕ) → (line : ℕ) → VarName
named name line = record { name = name; line = line }

abbrev pub variable : (name : List ℕ) → (depth : ℕ) → PlainType → TypedLean → Declared
variable name depth t l = record { name = name; depth = depth; meaning = meaning.Variable t l }

-- ---- an object's own faults: a second declaration in its block, then a type that no object has

-- an array without a length gets one from its initialiser
abbrev pub variable_type : PlainStructs → (initial : Bool) → PlainType → (at : ℕ) → Answer PlainType
variable_type structs true (type.Array t zero) at = then_rule (object_type structs t at) (λ u. Ok (type.Array u 0))
variable_type structs initial t at = object_type structs t at

abbrev pub variable_rule : PlainStructs → Env → (initial : Bool) → (name : List ℕ) → PlainType → (at : ℕ) → Answer PlainType
variable_rule structs env initial name t at =
    if is_at env.depth (find name env.declared) then fault kind.Twice at else variable_type structs initial t at

-- ---- static objects (6.2.4)

abbrev pub static_object : VarName → PlainType → PlainImage → TypedObject
static_object name t i = record { name = name; ty = t; image = i }

abbrev pub set_static : (number : ℕ) → TypedObject → Known → Known
set_static n o k = record { structs = k.structs; tags = k.tags; statics = slice_set k.statics n o; calls = k.calls }

-- the number of the object, before its type is known
abbrev pub reserved : VarName → Known → Known
reserved name k = with_static k (static_object name type.Void no_image)

-- The initialiser of static object n, which is of type t up to its length. There `sizeof` takes an array without a
-- length for incomplete, but addresses reach to the end that it will have.
abbrev pub static_init : (name : VarName) → (n at : ℕ) → PlainType → Walk Known TypedInit → Walk Known PlainType
static_init name n at t (Err f) = Err f
static_init name n at t (Ok r) =
    next (by (object_type r.1.structs (completed t r.0) at) r.1) (λ u k. Ok (u, set_static n (static_object name u (image k.structs u r.0)) k))

abbrev pub check_static : Env → (line : ℕ) → PlainType → ObjTree → Known → Walk Known Declared
check_static env line base (declarator.Bare stars name at ds) k =
    let n = length k.statics in
    next (check_lengths env [] ds (reserved (named name line) k)) (λ ns k1.
    next (by (variable_rule k1.structs env false name (declarator_type base stars ns) at) k1) (λ t k2.
    Ok (variable name env.depth t (lean.Static n), set_static n (static_object (named name line) t no_image) k2)))
check_static env line base (declarator.Initial stars name at ds i) k =
    let n = length k.statics in
    next (check_lengths env [] ds (reserved (named name line) k)) (λ ns k1.
    next (by (variable_rule k1.structs env true name (declarator_type base stars ns) at) k1) (λ t k2.
    next (static_init (named name line) n at t (check_init (declaring env (variable name env.depth t (lean.Static n))) true (Some t) i (set_static n (static_object (named name line) (foreseen t i) no_image) k2))) (λ u k3.
    Ok (variable name env.depth u (lean.Static n), k3))))

-- ---- automatic objects, and static ones in a block

abbrev pub with_local : VarName → PlainType → Body → Body
with_local name t b = record { known = b.known; locals = b.locals ++ t ∷ []; names = b.names ++ name ∷ [] }

abbrev pub set_local : (n : ℕ) → PlainType → Body → Body
set_local n t b = record { known = b.known; locals = slice_set b.locals n t; names = b.names }

-- a declared object, and the statements that initialise it
pub record Introduced : Type 0 where
  pub declared : Declared
  pub statements : List TypedStmt

abbrev pub introduced : Declared → List TypedStmt → Introduced
introduced d ss = record { declared = d; statements = ss }

-- the initialiser of automatic object n, which is of type t up to its length
abbrev pub local_init : (name : List ℕ) → (depth n at : ℕ) → PlainType → Walk Body TypedInit → Walk Body Introduced
local_init name depth n at t (Err f) = Err f
local_init name depth n at t (Ok r) =
    next (by (object_type r.1.known.structs (completed t r.0) at) r.1) (λ u b. Ok (introduced (variable name depth u (lean.Local n)) (stmt.Init n r.0 ∷ []), set_local n u b))

abbrev pub check_automatic : Env → (line : ℕ) → PlainType → ObjTree → Body → Walk Body Introduced
check_automatic env line base (declarator.Bare stars name at ds) b =
    let n = length b.locals in
    next (in_body b (check_lengths env [] ds b.known)) (λ ns b1.
    next (by (variable_rule b1.known.structs env false name (declarator_type base stars ns) at) b1) (λ t b2.
    Ok (introduced (variable name env.depth t (lean.Local n)) [], with_local (named name line) t b2)))
check_automatic env line base (declarator.Initial stars name at ds i) b =
    let n = length b.locals in
    next (in_body b (check_lengths env [] ds b.known)) (λ ns b1.
    next (by (variable_rule b1.known.structs env true name (declarator_type base stars ns) at) b1) (λ t b2.
    local_init name env.depth n at t (in_body (with_local (named name line) t b2) (check_init (declaring env (variable name env.depth t (lean.Local n))) false (Some t) i b2.known))))

abbrev pub check_object : Env → (fixed : Bool) → (line : ℕ) → PlainType → ObjTree → Body → Walk Body Introduced
check_object env true line base o b = next (in_body b (check_static env line base o b.known)) (λ d b1. Ok (introduced d [], b1))
check_object env false line base o b = check_automatic env line base o b

-- ---- a declaration in a block (6.8.2)

-- a structure's tag alone in a declaration is declared in its own block (6.7.2.3)
abbrev pub alone : Env → SpecTree → Known → Walk Known PlainType
alone env (spec.Tag first name) k = Ok (opened (Some name) env.depth k)
alone env s k = check_spec env s k

abbrev pub base_type : Env → SpecTree → (names : ObjTrees) → Known → Walk Known PlainType
base_type env s declarators.NoDeclarators k = alone env s k
base_type env s (declarators.Declarator o os) k = check_spec env s k

-- the declarations in force after a declaration, and the statements that initialise its objects
pub record Entered : Type 0 where
  pub env : Env
  pub statements : List TypedStmt

abbrev pub check_objects : Env → (fixed : Bool) → (line : ℕ) → PlainType → (done : List TypedStmt) → ObjTrees → Body → Walk Body Entered
check_objects env fixed line base done declarators.NoDeclarators b = Ok (record { env = env; statements = done }, b)
check_objects env fixed line base done (declarators.Declarator o os) b =
    next (check_object env fixed line base o b) (λ i b1. check_objects (declaring env i.declared) fixed line base (done ++ i.statements) os b1)

abbrev pub check_declaration : Env → LocalTree → Body → Walk Body Entered
check_declaration env d b =
    next (in_body b (base_type env d.spec d.names b.known)) (λ t b1. check_objects env d.fixed d.line t [] d.names b1)
