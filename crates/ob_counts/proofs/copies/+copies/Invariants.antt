use Rattle.std.proofs.Common.{◌≡◌, ◌+◌, take}
use Rattle.std.specs.List.{sum_by}
use Rattle.ob_tree.specs.StructsView.{plain_structs}
use Rattle.ob_typed.specs.TypedView.{typed_expr}
use Rattle.ob_typed.specs.Counts.{copies}
use Rattle.ob_counts.proofs.copies.+copies.Given as goal

abbrev pub invariant-add_arguments-loop-e : goal.invariant-add_arguments-loop-e
invariant-add_arguments-loop-e l = l.total ≡ l.fn.total + sum_by (λ e. copies (plain_structs l.s) (typed_expr e)) (take l.e-index l.arguments)
