use Rattle.ob_tree.specs.ExpressionView.{expr_tree}
use Rattle.ob_exprs.specs.Reading.{held}
use Rattle.ob_exprs.proofs.Behinds.{closed_answers}
use Rattle.ob_exprs.proofs.shifts.closing.Goals as goal

pub returns : goal.returns
returns c =
    closed_answers c.args.least c.args.at c.closing_level.result c.args.sign (expr_tree c.args.operand.expr.value) (expr_tree c.in_ok-stack.operand.expr.value) (held c.args.stack) (held c.in_ok-stack.stack) c.behind.result
    c.requires.other c.closing_level.ensures c.in_ok-stack.ensures.reduced c.in_ok-stack.ensures.again c.in_ok-stack.ensures.loaded c.behind.ensures
