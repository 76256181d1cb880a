use Rattle.ob_declarations.proofs.Blocks.{block_tree}
use Rattle.ob_declarations.proofs.nodes.block_of.Goals as goal

pub returns : goal.returns
returns c = block_tree c.args.first c.args.line c.args.items
