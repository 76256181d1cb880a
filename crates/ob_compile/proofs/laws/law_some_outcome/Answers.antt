use Rattle.ob_compile.proofs.SomeSource.{some_outcome}
use Rattle.ob_compile.proofs.laws.law_some_outcome.Goals as goal

pub returns : goal.returns
returns c = some_outcome
