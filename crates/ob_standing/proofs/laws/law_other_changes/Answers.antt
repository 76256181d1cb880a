use Rattle.ob_standing.proofs.Keeping.{other_changes}
use Rattle.ob_standing.proofs.laws.law_other_changes.Goals as goal

pub returns : goal.returns
returns c = other_changes
