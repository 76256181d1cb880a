use Rattle.ob_meaning.proofs.Ends.{runs_end_by_themselves}
use Rattle.ob_meaning.proofs.laws.law_endings.Goals as goal

pub returns : goal.returns
returns c = runs_end_by_themselves
