use Rattle.ob_model.proofs.FirstFits.{first_fit}
use Rattle.ob_model.proofs.laws.law_first_fit.Goals as goal

pub returns : goal.returns
returns c = first_fit
