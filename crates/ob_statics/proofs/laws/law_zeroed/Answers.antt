use Rattle.ob_statics.proofs.Laying.{zeroed_is_laid_out}
use Rattle.ob_statics.proofs.laws.law_zeroed.Goals as goal

pub returns : goal.returns
returns c = zeroed_is_laid_out
