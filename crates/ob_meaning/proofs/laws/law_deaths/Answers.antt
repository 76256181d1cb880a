use Rattle.ob_meaning.proofs.Strays.{granules_do_not_count, granules_leave, named_are_dead}
use Rattle.ob_meaning.proofs.laws.law_deaths.Goals as goal

pub returns-clause-dead : goal.returns-clause-dead
returns-clause-dead c = named_are_dead

pub returns-clause-granules : goal.returns-clause-granules
returns-clause-granules c = granules_leave

pub returns-clause-count : goal.returns-clause-count
returns-clause-count c = granules_do_not_count
