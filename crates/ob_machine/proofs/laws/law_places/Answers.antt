use Rattle.ob_machine.proofs.Reached.{reaches_placed}
use Rattle.ob_machine.proofs.laws.law_places.Goals as goal

pub returns : goal.returns
returns c = λ u place input steps n t v reaches. (reaches_placed u place input steps n t v reaches).innermost
