use Rattle.std.proofs.Common.{◌≡◌, take, false}
use Rattle.std.specs.List.{list_any}
use Rattle.ob_tree.specs.ProgramView.{item_tree}
use Rattle.ob_prelude.specs.Calls.{item_calls}
use Rattle.ob_prelude.proofs.program_calls.items_call.Given as goal

abbrev pub invariant-loop-item : goal.invariant-loop-item
invariant-loop-item l = list_any (λ i. item_calls l.name (item_tree i)) (take l.item-index l.items) ≡ false
