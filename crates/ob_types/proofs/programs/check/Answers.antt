use Rattle.ob_tree.specs.ProgramView.{program_tree}
use Rattle.ob_types.proofs.Parts.{answered}
use Rattle.ob_types.proofs.programs.check.Goals as goal

pub returns : goal.returns
returns c = answered (program_tree c.args.p.now) c.checked.result c.checked.ensures
