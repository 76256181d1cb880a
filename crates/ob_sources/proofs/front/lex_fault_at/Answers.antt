use Rattle.ob_sources.proofs.Faults.{lexed_fault}
use Rattle.ob_sources.proofs.front.lex_fault_at.Goals as goal

pub returns : goal.returns
returns c = lexed_fault c.args.bytes.now c.args.kind c.args.at c.position_behind-position.result c.requires.stops c.position_behind-position.ensures
