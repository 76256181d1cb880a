use Rattle.std.proofs.Common.{◌≡◌, drop}
use Rattle.ob_tree.specs.TypeView.{plain_types}
use Rattle.ob_typed.specs.Functions.{parameter_types}
use Rattle.ob_typed.specs.TypeTests.{same_types}
use Rattle.ob_functions.specs.FunctionView.{parameters}
use Rattle.ob_functions.proofs.same.same_types.Given as goal

abbrev pub invariant-loop-i : goal.invariant-loop-i
invariant-loop-i l =
    same_types (parameter_types (parameters l.params.items)) (plain_types l.types.items)
    ≡ same_types (parameter_types (parameters (drop l.i l.params.items))) (drop l.i (plain_types l.types.items))
