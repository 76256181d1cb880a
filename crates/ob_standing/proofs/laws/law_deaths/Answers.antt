use Rattle.ob_standing.proofs.Keeping.{frees_keep, returns_keep}
use Rattle.ob_standing.proofs.laws.law_deaths.Goals as goal

pub returns-clause-returns : goal.returns-clause-returns
returns-clause-returns c = returns_keep

pub returns-clause-frees : goal.returns-clause-frees
returns-clause-frees c = frees_keep
