-- The parts of an object's declarator: its type, after its own faults, and what follows.
use Rattle.std.specs.Prelude.{ℕ, true, false, Option, Some, None, Ok, List, []}
use Rattle.ob_tree.specs.Trees.{InitTree, ObjTree}
use Rattle.ob_tree.specs.Trees.{ObjTree as declarator}
use Rattle.ob_tree.specs.Types.{PlainType}
use Rattle.ob_typed.specs.declared.names.VarName.{VarName}
use Rattle.ob_typed.specs.TypedTree.{TypedInit}
use Rattle.ob_typed.specs.TypedTree.{TypedLean as lean}
use Rattle.ob_typed.specs.Faults.{Walk, next, by}
use Rattle.ob_typed.specs.Scopes.{Known, Env, Declared, declaring}
use Rattle.ob_typed.specs.Specifiers.{declarator_type}
use Rattle.ob_typed.specs.Expressions.{check_lengths}
use Rattle.ob_typed.specs.Images.{image, no_image}
use Rattle.ob_typed.specs.Initialisers.{check_init, foreseen}
use Rattle.ob_typed.specs.Declarations.{Body, Introduced, in_body, introduced, local_init, set_static, static_init, static_object, variable, variable_rule, with_local}

-- the type of an object, up to its length, after its own faults
abbrev pub own_type : Env → PlainType → ObjTree → Known → Walk Known PlainType
own_type env base (declarator.Bare stars name at ds) k =
    next (check_lengths env [] ds k) (λ ns k1. by (variable_rule k1.structs env false name (declarator_type base stars ns) at) k1)
own_type env base (declarator.Initial stars name at ds i) k =
    next (check_lengths env [] ds k) (λ ns k1. by (variable_rule k1.structs env true name (declarator_type base stars ns) at) k1)

-- static object n of type t up to its length, while its initialiser is walked
abbrev pub foreseen_static : VarName → (n : ℕ) → PlainType → InitTree → Known → Known
foreseen_static name n t i k = set_static n (static_object name (foreseen t i) no_image) k

abbrev pub static_walk : Env → VarName → (n : ℕ) → PlainType → InitTree → Known → Walk Known TypedInit
static_walk env name n t i k =
    check_init (declaring env (variable name.name env.depth t (lean.Static n))) true (Some t) i (foreseen_static name n t i k)

abbrev pub initial_static : Env → VarName → (n at : ℕ) → PlainType → InitTree → Known → Walk Known Declared
initial_static env name n at t i k =
    next (static_init name n at t (static_walk env name n t i k)) (λ u k3. Ok (variable name.name env.depth u (lean.Static n), k3))

-- static object n, with an initialiser
abbrev pub held_static : VarName → (n : ℕ) → PlainType → TypedInit → Known → Known
held_static name n u x k = set_static n (static_object name u (image k.structs u x)) k

-- static object n of type t up to its length, and its initialiser or none
abbrev pub static_rest : Env → VarName → (n at : ℕ) → PlainType → Option InitTree → Known → Walk Known Declared
static_rest env name n at t None k = Ok (variable name.name env.depth t (lean.Static n), set_static n (static_object name t no_image) k)
static_rest env name n at t (Some i) k = initial_static env name n at t i k

-- automatic object n of type t up to its length
abbrev pub local_walk : Env → (name : List ℕ) → (n : ℕ) → PlainType → InitTree → Body → Walk Body TypedInit
local_walk env name n t i b =
    in_body b (check_init (declaring env (variable name env.depth t (lean.Local n))) false (Some t) i b.known)

abbrev pub initial_local : Env → (name : List ℕ) → (n at : ℕ) → PlainType → InitTree → Body → Walk Body Introduced
initial_local env name n at t i b = local_init name env.depth n at t (local_walk env name n t i b)

-- the next automatic object, of type t up to its length, and its initialiser or none
abbrev pub local_rest : Env → VarName → (n at : ℕ) → PlainType → Option InitTree → Body → Walk Body Introduced
local_rest env name n at t None b = Ok (introduced (variable name.name env.depth t (lean.Local n)) [], with_local name t b)
local_rest env name n at t (Some i) b = initial_local env name.name n at t i (with_local name t b)
