use Rattle.ob_model.proofs.FreedObjects.{moves_stay}
use Rattle.ob_model.proofs.laws.law_pointers.Goals as goal

pub returns-clause-moves : goal.returns-clause-moves
returns-clause-moves c = moves_stay
