use Rattle.ob_statics.proofs.Laying.{laid_out_is_static}
use Rattle.ob_statics.proofs.laws.law_laid_out.Goals as goal

pub returns : goal.returns
returns c = laid_out_is_static
