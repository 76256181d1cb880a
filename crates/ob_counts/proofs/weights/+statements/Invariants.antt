use Rattle.std.proofs.Common.{◌≡◌, ◌+◌, take}
use Rattle.std.specs.List.{sum_by}
use Rattle.ob_tree.specs.StructsView.{plain_structs}
use Rattle.ob_typed.specs.TypedView.{typed_stmt}
use Rattle.ob_typed.specs.Counts.{stmt_load}
use Rattle.ob_counts.proofs.weights.+statements.Given as goal

abbrev pub invariant-add_stmts-loop-stmt : goal.invariant-add_stmts-loop-stmt
invariant-add_stmts-loop-stmt l = l.total ≡ l.fn.total + sum_by (λ x. stmt_load (plain_structs l.s) (typed_stmt x)) (take l.stmt-index l.stmts)
