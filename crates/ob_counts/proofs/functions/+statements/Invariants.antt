use Rattle.std.proofs.Common.{◌≡◌, ◌+◌, take}
use Rattle.std.specs.List.{sum_by}
use Rattle.ob_tree.specs.ProgramView.{one_item}
use Rattle.ob_typed.specs.Counts.{nodes_of_block}
use Rattle.ob_counts.proofs.functions.+statements.Given as goal

abbrev pub invariant-add_block-loop-item : goal.invariant-add_block-loop-item
invariant-add_block-loop-item l = l.total ≡ l.fn.total + sum_by (λ i. nodes_of_block (one_item i)) (take l.item-index l.items)
