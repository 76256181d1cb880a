use Rattle.ob_typed.proofs.ProgramsTyped.{typed_trees_are_well_typed}
use Rattle.ob_typed.proofs.laws.law_well_typed.Goals as goal

pub returns : goal.returns
returns c = typed_trees_are_well_typed
