use Rattle.std.proofs.Common.{◌<◌, length, arith}
use Rattle.ob_away.proofs.Linked.{IsLinked-entered}
use Rattle.ob_away.proofs.chains.link.Goals as goal

pub returns-clause-linked : goal.returns-clause-linked
returns-clause-linked c = λ pair is.
    let long : c.args.slot < length c.make_spare.new.next.items = omega (arith, c.requires.inside, c.requires.long, c.make_spare.ensures.long) in
    rw c.chain.ensures.next (IsLinked-entered c.make_spare.new.heads c.chain.new.heads c.make_spare.new.next.items c.args.slots.now c.args.object c.args.slot pair is
    c.requires.inside long c.requires.vacant c.chain.ensures.head c.chain.ensures.others c.make_spare.ensures.linked)
