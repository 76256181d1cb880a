use Rattle.ob_statements.proofs.StmtRows.{for_stmt}
use Rattle.ob_statements.proofs.nodes.for_of.Goals as goal

pub returns : goal.returns
returns c = for_stmt c.args.start c.args.test c.args.next c.args.body
