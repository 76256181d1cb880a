use Rattle.ob_statics.proofs.Laying.{ranges_are_kept}
use Rattle.ob_statics.proofs.laws.law_ranges.Goals as goal

pub returns : goal.returns
returns c = ranges_are_kept
