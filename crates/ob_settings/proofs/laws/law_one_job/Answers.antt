use Rattle.ob_settings.proofs.Read.{one_job}
use Rattle.ob_settings.proofs.Makers.{three_are_enough}
use Rattle.ob_settings.proofs.laws.law_one_job.Goals as goal

pub returns-clause-one : goal.returns-clause-one
returns-clause-one c = one_job

pub returns-clause-makers : goal.returns-clause-makers
returns-clause-makers c = three_are_enough
