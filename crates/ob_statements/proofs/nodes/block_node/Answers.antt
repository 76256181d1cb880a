use Rattle.ob_statements.proofs.StmtRows.{block_stmt}
use Rattle.ob_statements.proofs.nodes.block_node.Goals as goal

pub returns : goal.returns
returns c = block_stmt c.args.ss
