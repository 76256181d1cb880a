use Rattle.ob_settings.proofs.Ranges.{arguments_stand_there, jobs_are_fit}
use Rattle.ob_settings.proofs.laws.law_jobs.Goals as goal

pub returns-clause-fit : goal.returns-clause-fit
returns-clause-fit c = jobs_are_fit

pub returns-clause-places : goal.returns-clause-places
returns-clause-places c = arguments_stand_there
