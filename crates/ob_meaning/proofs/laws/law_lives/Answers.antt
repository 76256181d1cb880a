use Rattle.ob_meaning.proofs.LivesOfRuns.{automatics_alone_die, live_alone_count, none_is_freed}
use Rattle.ob_meaning.proofs.laws.law_lives.Goals as goal

pub returns-clause-none_freed : goal.returns-clause-none_freed
returns-clause-none_freed c = none_is_freed

pub returns-clause-automatic : goal.returns-clause-automatic
returns-clause-automatic c = automatics_alone_die

pub returns-clause-live : goal.returns-clause-live
returns-clause-live c = live_alone_count
