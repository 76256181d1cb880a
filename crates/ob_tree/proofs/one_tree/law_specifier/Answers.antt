use Rattle.ob_tree.proofs.OneTree.{one-specifier}
use Rattle.ob_tree.proofs.one_tree.law_specifier.Goals as goal

pub returns : goal.returns
returns c = one-specifier
