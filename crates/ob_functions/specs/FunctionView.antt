-- Parameters as those of the definition (C99 6.7.5.3).
use Rattle.std.specs.Prelude.{Bool, false, Option, Some, None, List, [], ◌∷◌, ◌++◌, length, map}
use Rattle.ob_tree.specs.Types.{PlainType}
use Rattle.ob_tree.specs.TypeView.{plain_type}
use Rattle.ob_typed.specs.Scopes.{Env, with_declared}
use Rattle.ob_typed.specs.Functions.{Parameter as PlainParameter, with_parameter}
use Rattle.ob_typed.specs.TypeTests.{same_type}
use Rattle.ob_functions.specs.declared.parameters.Parameter.{Parameter}

abbrev pub parameter : Parameter → PlainParameter
parameter p = record { name = p.name; ty = plain_type p.ty; line = p.line }

abbrev pub parameters : List Parameter → List PlainParameter
parameters ps = map parameter ps

-- some parameters, and what stands among them
pub record Among : Type 0 where
  pub params : List PlainParameter
  pub env : Env

-- one more parameter, which is declared behind those before it
abbrev pub one_more : Among → PlainParameter → Among
one_more a p = record {
  params = a.params ++ p ∷ [];
  env = with_declared a.env (with_parameter a.env.depth (length a.params) p.name p.ty a.env.declared);
}

-- a type is that of a place, where there is one
abbrev pub is_type : PlainType → Option PlainType → Bool
is_type t None = false
is_type t (Some u) = same_type t u
