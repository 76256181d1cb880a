use Rattle.ob_meaning.proofs.Depths.{calls_are_free, turns_are_free}
use Rattle.ob_meaning.proofs.laws.law_depth.Goals as goal

pub returns-clause-calls : goal.returns-clause-calls
returns-clause-calls c = calls_are_free

pub returns-clause-turns : goal.returns-clause-turns
returns-clause-turns c = turns_are_free
