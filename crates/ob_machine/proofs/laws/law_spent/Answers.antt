use Rattle.ob_machine.proofs.WholeRuns.{spent_reaches, reaches_spent}
use Rattle.ob_machine.proofs.laws.law_spent.Goals as goal

pub returns : goal.returns
returns c = λ u space place input steps. (spent_reaches u space place input steps, λ r. reaches_spent u space place input steps r.0 r.1)
