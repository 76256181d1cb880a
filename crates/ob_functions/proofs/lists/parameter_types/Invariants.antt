use Rattle.std.proofs.Common.{◌≡◌, take}
use Rattle.ob_tree.specs.TypeView.{plain_types}
use Rattle.ob_typed.specs.Functions.{parameter_types}
use Rattle.ob_functions.specs.FunctionView.{parameters}
use Rattle.ob_functions.proofs.lists.parameter_types.Given as goal

abbrev pub invariant-loop-p : goal.invariant-loop-p
invariant-loop-p l = plain_types l.types.items ≡ parameter_types (parameters (take l.p-index l.params.items))
