use Rattle.ob_meaning.proofs.Agreement.{agreement_goes_through}
use Rattle.ob_meaning.proofs.FirstDrop.{to_the_first_drop}
use Rattle.ob_meaning.proofs.Modes.{nothing_dropped, runs_of_settings}
use Rattle.ob_meaning.proofs.laws.law_first_drop.Goals as goal

pub returns-clause-bounded : goal.returns-clause-bounded
returns-clause-bounded c = to_the_first_drop

pub returns-clause-vanishing : goal.returns-clause-vanishing
returns-clause-vanishing c = nothing_dropped

pub returns-clause-settings : goal.returns-clause-settings
returns-clause-settings c = runs_of_settings

pub returns-clause-machine : goal.returns-clause-machine
returns-clause-machine c = agreement_goes_through
