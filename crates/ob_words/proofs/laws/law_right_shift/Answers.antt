use Rattle.ob_words.proofs.Divisions.{floor_low, floor_high}
use Rattle.ob_words.proofs.laws.law_right_shift.Goals as goal

pub returns-clause-low : goal.returns-clause-low
returns-clause-low c = floor_low

pub returns-clause-high : goal.returns-clause-high
returns-clause-high c = floor_high
