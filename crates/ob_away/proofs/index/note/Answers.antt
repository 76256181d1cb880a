use Rattle.ob_away.proofs.Names.{IsIndexed-others}
use Rattle.ob_away.proofs.index.note.Goals as goal

pub returns-clause-indexed : goal.returns-clause-indexed
returns-clause-indexed c = IsIndexed-others c.make_spare.new.index c.point.new.index c.args.slots.now c.args.pair c.make_spare.ensures.indexed c.requires.absent c.point.ensures.others
