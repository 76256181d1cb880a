use Rattle.ob_first.proofs.SomeOutcome.{some_outcome}
use Rattle.ob_first.proofs.laws.law_some_outcome.Goals as goal

pub returns : goal.returns
returns c text short = some_outcome text (c.law_some_program.ensures text short)
