use Rattle.std.proofs.Common.{sym}
use Rattle.ob_away.proofs.FreeSlots.{top-vacant, IsListed-taken, vacant-none}
use Rattle.ob_away.proofs.free.reuse.Goals as goal

pub returns-in-Some-clause-slot : goal.returns-in-Some-clause-slot
returns-in-Some-clause-slot c = sym (top-vacant c.args.slots.now c.args.free.now c.pop.new.self c.in-Some.field-0 c.requires c.in-Some.ensures.permutation c.in-Some.ensures.heap_order)

pub returns-in-Some-clause-others : goal.returns-in-Some-clause-others
returns-in-Some-clause-others c = λ pair. IsListed-taken c.args.slots.now c.args.free.now c.pop.new.self c.in-Some.field-0 c.requires c.in-Some.ensures.permutation c.in-Some.ensures.heap_order pair c.in-Some.ensures.len

pub returns-in-None-clause-slot : goal.returns-in-None-clause-slot
returns-in-None-clause-slot c = sym (vacant-none c.args.slots.now c.args.free.now c.requires c.in-None.ensures.none)
