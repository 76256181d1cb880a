use Rattle.std.proofs.Common.{◌≡◌, ◌≤◌, length}
use Rattle.ob_tree.specs.ExpressionView.{expr_tree}
use Rattle.ob_tree.specs.ExprStates.{AfterOperand, reduce as reduce_of}
use Rattle.ob_exprs.specs.DeepestPaths.{deepest_path}
use Rattle.ob_exprs.specs.View.{pending_nodes}
use Rattle.ob_exprs.proofs.reduce.reduce.Given as goal

abbrev pub invariant-closing : goal.invariant-closing
invariant-closing l = record {
  same : reduce_of l.most (expr_tree l.node.expr.value) (pending_nodes l.stack.pending.items) ≡ reduce_of l.most (expr_tree l.fn.operand.expr.value) (pending_nodes l.fn.stack.pending.items);
  deepest_path : deepest_path (AfterOperand (expr_tree l.node.expr.value) (pending_nodes l.stack.pending.items)) ≤ deepest_path (AfterOperand (expr_tree l.fn.operand.expr.value) (pending_nodes l.fn.stack.pending.items));
}

abbrev pub decreases-closing : goal.decreases-closing
decreases-closing l = length (pending_nodes l.stack.pending.items)
