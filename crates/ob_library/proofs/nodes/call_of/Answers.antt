use Rattle.std.proofs.Common.{ap, ◌∙◌}
use Rattle.ob_tree.specs.ExpressionView.{expr_tree}
use Rattle.ob_library.proofs.Views.{call_tree}
use Rattle.ob_library.specs.Nodes.{no_place}
use Rattle.ob_library.proofs.nodes.call_of.Goals as goal

pub returns : goal.returns
returns c = ap expr_tree c.unplaced.ensures ∙ call_tree no_place no_place 0 c.args.name c.args.arguments
