-- Function declarators and their parameters (C99 6.7.5.3, 6.9.1).
use Rattle.std.specs.Prelude.{ℕ, suc, ◌+◌, Bool, true, false, ◌&&◌, ◌||◌, not, if◌then◌else◌, Option, Some, None, Ok, List, [], ◌∷◌, ◌++◌, map}
use Rattle.std.specs.Str.{bytes_eq}
use Rattle.ob_tree.specs.declared.faults.TypeKind.TheVariants as kind
use Rattle.ob_tree.specs.Programs.{ParamTree, ParamsTree}
use Rattle.ob_tree.specs.Programs.{ParamsTree as params}
use Rattle.ob_tree.specs.Types.{PlainType, PlainStructs}
use Rattle.ob_tree.specs.Types.{PlainType as type}
use Rattle.ob_tree.specs.Sizes.{has_size, is_complete}
use Rattle.ob_typed.specs.declared.names.VarName.{VarName}
use Rattle.ob_typed.specs.TypedTree.{TypedLean as lean}
use Rattle.ob_typed.specs.Faults.{Answer, Walk, fault, next, by}
use Rattle.ob_typed.specs.Scopes.{Known, Env, Declared, Meaning, find, is_at}
use Rattle.ob_typed.specs.Scopes.{Meaning as meaning}
use Rattle.ob_typed.specs.TypeTests.{is_scalar, is_struct, same_type, same_types}
use Rattle.ob_typed.specs.PostfixRules.{builtin_params, builtin_result}
use Rattle.ob_typed.specs.Specifiers.{parameter_type}
use Rattle.ob_typed.specs.Expressions.{check_lengths, check_spec}
use Rattle.ob_typed.specs.Declarations.{named, variable}

-- ---- parameters: their names are one block with the outermost block of the body

pub record Parameter : Type 0 where
  pub name : Option (List ℕ)
  pub ty : PlainType
  pub line : ℕ

abbrev pub with_parameter : (depth n : ℕ) → Option (List ℕ) → PlainType → List Declared → List Declared
with_parameter depth n None t ds = ds
with_parameter depth n (Some name) t ds = variable name depth t (lean.Local n) ∷ ds

-- the declarations of parameters from number n on, in front of those before
abbrev pub with_parameters : (depth n : ℕ) → List Declared → List Parameter → List Declared
with_parameters depth n ds [] = ds
with_parameters depth n ds (p ∷ ps) = with_parameters depth (n + 1) (with_parameter depth n p.name p.ty ds) ps

-- one block further in, where these parameters are declared
abbrev pub parameter_env : Env → List Parameter → Env
parameter_env env ps =
    record { declared = with_parameters (suc env.depth) 0 env.declared ps; depth = suc env.depth; bodies = env.bodies; around = env.around }

abbrev pub is_declared_here : Env → Option (List ℕ) → Bool
is_declared_here env None = false
is_declared_here env (Some name) = is_at env.depth (find name env.declared)

-- a pointer to a type of too many bytes, as that to the elements of an array can be
abbrev pub points_too_far : PlainStructs → PlainType → Bool
points_too_far structs (type.Pointer t) = has_size structs t && not (is_complete structs t)
points_too_far structs _ = false

-- a parameter is a number or a pointer
abbrev pub parameter_rule : PlainStructs → Env → ParamTree → PlainType → Answer Parameter
parameter_rule structs env p t =
    if is_declared_here env p.name then fault kind.Twice p.at
    else (if not (is_scalar t) then fault kind.Incomplete p.at
    else (if points_too_far structs t then fault kind.Constant p.at else Ok (record { name = p.name; ty = t; line = p.line })))

abbrev pub check_parameter : Env → ParamTree → Known → Walk Known Parameter
check_parameter env p k =
    next (check_spec env p.spec k) (λ t k1. next (check_lengths env [] p.dims k1) (λ ns k2. by (parameter_rule k2.structs env p (parameter_type t p.stars ns)) k2))

abbrev pub check_each : Env → (done : List Parameter) → List ParamTree → Known → Walk Known (List Parameter)
check_each env done [] k = Ok (done, k)
check_each env done (p ∷ ps) k = next (check_parameter (parameter_env env done) p k) (λ q k1. check_each env (done ++ q ∷ []) ps k1)

abbrev pub check_params : Env → ParamsTree → Known → Walk Known (List Parameter)
check_params env params.Empty k = Ok ([], k)
check_params env params.Void k = Ok ([], k)
check_params env (params.Listed ps) k = check_each env [] ps k

abbrev pub parameter_types : List Parameter → List PlainType
parameter_types ps = map (λ p. p.ty) ps

abbrev pub or_empty : Option (List ℕ) → List ℕ
or_empty None = []
or_empty (Some name) = name

abbrev pub parameter_names : List Parameter → List VarName
parameter_names ps = map (λ p. named (or_empty p.name) p.line) ps

-- ---- a function declarator's own faults: a second declaration that isn't of one type, a second body or the body
-- of a built-in function; a result of structure type

abbrev pub is_same_function : (result : PlainType) → List PlainType → Meaning → Bool
is_same_function result ps (meaning.Variable t l) = false
is_same_function result ps (meaning.Function r qs) = same_type result r && same_types ps qs
is_same_function result ps (meaning.BuiltIn b) = same_type result (builtin_result b) && same_types ps (builtin_params b)

abbrev pub is_builtin : Meaning → Bool
is_builtin (meaning.BuiltIn b) = true
is_builtin _ = false

-- whether it may be declared beside what the name stands for already
abbrev pub may_be : (body : Bool) → (result : PlainType) → List PlainType → Option Declared → Bool
may_be body result ps None = true
may_be body result ps (Some d) = is_same_function result ps d.meaning && not (body && is_builtin d.meaning)

abbrev pub with_function : (name : List ℕ) → (result : PlainType) → List PlainType → Option Declared → List Declared → List Declared
with_function name result ps None ds = record { name = name; depth = 0; meaning = meaning.Function result ps } ∷ ds
with_function name result ps (Some d) ds = ds

abbrev pub is_one_of : (name : List ℕ) → List (List ℕ) → Bool
is_one_of name [] = false
is_one_of name (x ∷ xs) = bytes_eq x name || is_one_of name xs

-- the declarations at file scope with this one; `defined` are the functions that have a body already
abbrev pub function_rule : List Declared → (defined : List (List ℕ)) → (body : Bool) → (name : List ℕ) → (at : ℕ) → (result : PlainType) → List PlainType → Answer (List Declared)
function_rule ds defined body name at result ps =
    if not (may_be body result ps (find name ds)) || (body && is_one_of name defined) then fault kind.Twice at
    else (if is_struct result then fault kind.Incomplete at else Ok (with_function name result ps (find name ds) ds))
