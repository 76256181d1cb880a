use Rattle.ob_model.proofs.FreedObjects.{own_frees, die_or_stay}
use Rattle.ob_model.proofs.laws.law_freeing.Goals as goal

pub returns-clause-own : goal.returns-clause-own
returns-clause-own c = own_frees

pub returns-clause-states : goal.returns-clause-states
returns-clause-states c = die_or_stay
