use Rattle.std.proofs.Common.{◌≡◌, ◌+◌, [], ◌∷◌, take}
use Rattle.std.specs.List.{sum_by}
use Rattle.ob_tree.specs.ProgramView.{param_tree}
use Rattle.ob_typed.specs.Counts.{nodes_of_each}
use Rattle.ob_counts.proofs.functions.add_each.Given as goal

abbrev pub invariant-loop-param : goal.invariant-loop-param
invariant-loop-param l = l.total ≡ l.fn.total + sum_by (λ p. nodes_of_each (param_tree p ∷ [])) (take l.param-index l.params)
