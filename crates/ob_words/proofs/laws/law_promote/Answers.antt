use Rattle.ob_words.proofs.Divisions.{promote_narrow, promote_wide}
use Rattle.ob_words.proofs.laws.law_promote.Goals as goal

pub returns-clause-narrow : goal.returns-clause-narrow
returns-clause-narrow c = promote_narrow

pub returns-clause-wide : goal.returns-clause-wide
returns-clause-wide c = promote_wide
