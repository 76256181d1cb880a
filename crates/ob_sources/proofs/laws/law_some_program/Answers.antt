use Rattle.ob_sources.proofs.SomeProgram.{some_program}
use Rattle.ob_sources.proofs.laws.law_some_program.Goals as goal

pub returns : goal.returns
returns c = some_program
