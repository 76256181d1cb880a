use Rattle.ob_model.proofs.BoundedLists.{others_stay}
use Rattle.ob_model.proofs.laws.law_bounded_list.Goals as goal

pub returns-clause-others : goal.returns-clause-others
returns-clause-others c = others_stay
