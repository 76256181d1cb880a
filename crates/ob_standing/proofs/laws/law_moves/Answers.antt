use Rattle.ob_standing.proofs.Keeping.{moves_keep}
use Rattle.ob_standing.proofs.laws.law_moves.Goals as goal

pub returns : goal.returns
returns c = moves_keep
