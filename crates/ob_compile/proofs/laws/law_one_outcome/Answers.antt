use Rattle.ob_compile.proofs.OneSource.{no_memory, one_outcome, one_typed}
use Rattle.ob_compile.proofs.laws.law_one_outcome.Goals as goal

pub returns-clause-outcome : goal.returns-clause-outcome
returns-clause-outcome c = one_outcome

pub returns-clause-typed : goal.returns-clause-typed
returns-clause-typed c = one_typed

pub returns-clause-memory : goal.returns-clause-memory
returns-clause-memory c = no_memory
