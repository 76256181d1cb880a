use Rattle.ob_sources.proofs.Faults.{parsed_fault}
use Rattle.ob_sources.proofs.front.syntax_fault_at.Goals as goal

pub returns : goal.returns
returns c =
    parsed_fault c.args.bytes.now c.args.tokens.now c.args.kind c.args.at c.position_at-position.result c.requires.spelled c.requires.fault c.position_at-position.ensures
