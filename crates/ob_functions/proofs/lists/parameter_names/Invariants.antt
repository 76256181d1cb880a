use Rattle.std.proofs.Common.{◌≡◌, take}
use Rattle.ob_typed.specs.Functions.{parameter_names}
use Rattle.ob_functions.specs.FunctionView.{parameters}
use Rattle.ob_functions.proofs.lists.parameter_names.Given as goal

abbrev pub invariant-loop-p : goal.invariant-loop-p
invariant-loop-p l = l.names.items ≡ parameter_names (parameters (take l.p-index l.params.items))
