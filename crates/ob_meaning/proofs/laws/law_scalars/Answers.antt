use Rattle.ob_meaning.proofs.CountedScalars.{scalars_are_counted}
use Rattle.ob_meaning.proofs.laws.law_scalars.Goals as goal

pub returns : goal.returns
returns c = scalars_are_counted
