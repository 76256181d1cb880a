use Rattle.ob_types.proofs.Blocks.{block_of}
use Rattle.ob_types.proofs.functions.block.Goals as goal

pub returns : goal.returns
returns c = block_of c.args.statements
