use Rattle.ob_frames.proofs.Nesting.{kept_once_entered, kept_once_left}
use Rattle.ob_frames.proofs.laws.law_kept.Goals as goal

pub returns-clause-entered : goal.returns-clause-entered
returns-clause-entered c = kept_once_entered

pub returns-clause-left : goal.returns-clause-left
returns-clause-left c = kept_once_left
