use Rattle.std.proofs.Common.{◌≡◌, ◌+◌, take}
use Rattle.std.specs.List.{sum_by}
use Rattle.ob_tree.specs.StructsView.{plain_structs}
use Rattle.ob_typed.specs.TypedView.{typed_init}
use Rattle.ob_typed.specs.Counts.{init_load}
use Rattle.ob_counts.proofs.weights.+initialisers.Given as goal

abbrev pub invariant-add_items-loop-item : goal.invariant-add_items-loop-item
invariant-add_items-loop-item l = l.total ≡ l.fn.total + sum_by (λ i. init_load (plain_structs l.s) (typed_init i)) (take l.item-index l.items)
