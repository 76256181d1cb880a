use Rattle.ob_first.proofs.Outcomes.{one_outcome}
use Rattle.ob_first.proofs.laws.law_one_outcome.Goals as goal

pub returns : goal.returns
returns c = one_outcome c.law_one_program.ensures
