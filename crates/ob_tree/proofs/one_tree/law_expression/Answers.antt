use Rattle.ob_tree.proofs.OneTree.{one-expression}
use Rattle.ob_tree.proofs.one_tree.law_expression.Goals as goal

pub returns : goal.returns
returns c = one-expression
