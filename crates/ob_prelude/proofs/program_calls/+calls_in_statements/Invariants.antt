use Rattle.std.proofs.Common.{◌≡◌, take, false}
use Rattle.std.specs.List.{list_any}
use Rattle.ob_tree.specs.ProgramView.{one_item}
use Rattle.ob_prelude.specs.Calls.{block_calls}
use Rattle.ob_prelude.proofs.program_calls.+calls_in_statements.Given as goal

abbrev pub invariant-block_calls-loop-item : goal.invariant-block_calls-loop-item
invariant-block_calls-loop-item l = list_any (λ i. block_calls l.name (one_item i)) (take l.item-index l.items) ≡ false
