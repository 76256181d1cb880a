use Rattle.ob_words.proofs.Divisions.{division}
use Rattle.ob_words.proofs.laws.law_division.Goals as goal

pub returns : goal.returns
returns c = division
