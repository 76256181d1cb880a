use Rattle.std.proofs.Common.{◌<◌, ◌∙◌, arith}
use Rattle.ob_tree.specs.ExpressionView.{expr_tree}
use Rattle.ob_tree.specs.ExprStates.{top_right_precedence}
use Rattle.ob_exprs.specs.View.{pending_nodes}
use Rattle.ob_exprs.proofs.Turns.{turn}
use Rattle.ob_exprs.proofs.reduce.reduce.Goals as goal

pub closing-preserved : goal.closing-preserved
closing-preserved c =
    let h : c.args.most < top_right_precedence (pending_nodes c.closing.stack.pending.items) = omega arith in
    let t = turn c.args.most (expr_tree c.closing.node.expr.value) (pending_nodes c.closing.stack.pending.items) (expr_tree c.in_ok-rest.closed.expr.value) (pending_nodes c.in_ok-rest.rest.pending.items) h c.in_ok-rest.ensures in
    record { same = t.same ∙ c.closing.invariant.same; deepest_path = omega (arith, t.deepest_path, c.closing.invariant.deepest_path) }
