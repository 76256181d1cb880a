use Rattle.ob_machine.proofs.Words.{scaled_is}
use Rattle.ob_machine.proofs.arithmetic.scaled.Goals as goal

pub returns : goal.returns
returns c = scaled_is c.args.start c.args.size c.args.count c.ranges.start c.ranges.size c.ranges.count c.requires.start c.requires.size c.requires.count
