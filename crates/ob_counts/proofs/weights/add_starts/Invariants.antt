use Rattle.std.proofs.Common.{◌≡◌, ◌+◌, take}
use Rattle.std.specs.List.{sum_by}
use Rattle.ob_tree.specs.StructsView.{plain_structs}
use Rattle.ob_typed.specs.TypedTree.{TypedStmts}
use Rattle.ob_typed.specs.TypedView.{typed_stmt}
use Rattle.ob_typed.specs.Counts.{start_load}
use Rattle.ob_counts.proofs.weights.add_starts.Given as goal

abbrev pub invariant-loop-stmt : goal.invariant-loop-stmt
invariant-loop-stmt l = l.total ≡ l.fn.total + sum_by (λ x. start_load (plain_structs l.s) (TypedStmts.Stmt (typed_stmt x) TypedStmts.NoStmts)) (take l.stmt-index l.start)
