use Rattle.std.proofs.Common.{◌≡◌, take, false}
use Rattle.std.specs.List.{list_any}
use Rattle.ob_tree.specs.ProgramView.{param_tree}
use Rattle.ob_prelude.specs.Calls.{param_calls}
use Rattle.ob_prelude.proofs.program_calls.param_list_calls.Given as goal

abbrev pub invariant-loop-param : goal.invariant-loop-param
invariant-loop-param l = list_any (λ p. param_calls l.name (param_tree p)) (take l.param-index l.params) ≡ false
