-- The arguments of a call in the types of the parameters. These serve the proof.
use Rattle.std.specs.Prelude.{if◌then◌else◌, Ok, List, Vec, map}
use Rattle.std.specs.declared.alloc.Global.{Global}
use Rattle.ob_tree.specs.declared.faults.TypeKind.TheVariants as kind
use Rattle.ob_tree.specs.Types.{PlainType}
use Rattle.ob_typed.specs.declared.expressions.TExpr.{TExpr}
use Rattle.ob_typed.specs.Conversions.{as_type, fits, value}
use Rattle.ob_typed.specs.Faults.{Answer, fault}
use Rattle.ob_typed.specs.PostfixRules.{Argument}
use Rattle.ob_typed.specs.TypedTree.{TypedExpr}
use Rattle.ob_typed.specs.TypedView.{typed_expr}

abbrev pub typed_list : Vec TExpr Global → List TypedExpr
typed_list es = map typed_expr es.items

-- an argument in the type of a parameter
abbrev pub converted : Argument → PlainType → Answer TypedExpr
converted a t = if fits a.is t then Ok (as_type (value a.is) t) else fault kind.Assign a.first
