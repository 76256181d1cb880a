use Rattle.ob_standing.proofs.Keeping.{allocations_keep, calls_keep}
use Rattle.ob_standing.proofs.laws.law_new_objects.Goals as goal

pub returns-clause-calls : goal.returns-clause-calls
returns-clause-calls c = calls_keep

pub returns-clause-allocations : goal.returns-clause-allocations
returns-clause-allocations c = allocations_keep
