use Rattle.ob_sources.proofs.OneProgram.{one_program}
use Rattle.ob_sources.proofs.laws.law_one_program.Goals as goal

pub returns : goal.returns
returns c = one_program
