use Rattle.ob_library.proofs.Views.{block_tree}
use Rattle.ob_library.specs.Nodes.{no_place}
use Rattle.ob_library.proofs.statements.block_of.Goals as goal

pub returns : goal.returns
returns c = block_tree no_place 0 c.args.items
