use Rattle.std.proofs.Common.{ap, ◌∙◌}
use Rattle.ob_tree.specs.ExpressionView.{expr_tree}
use Rattle.ob_exprs.proofs.Views.{call_tree}
use Rattle.ob_exprs.proofs.nodes.call_node.Goals as goal

pub returns : goal.returns
returns c = ap expr_tree c.placed.ensures ∙ call_tree c.args.place.first c.args.place.at c.args.place.line c.args.name c.args.items
