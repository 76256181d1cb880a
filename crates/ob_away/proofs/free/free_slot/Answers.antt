use Rattle.std.proofs.Common.{◌<◌, arith, refl, Result, Ok, Err}
use Rattle.std.specs.Prelude.{IsOk, OnOk}
use Rattle.std.specs.BinaryHeap.{heap_len, heap_capacity}
use Rattle.ob_away.proofs.FreeSlots.{IsListed-freed, fewer_free}
use Rattle.ob_away.proofs.free.free_slot.Goals as goal

where_ok : {T E P : Type 0} (r : Result T E) → IsOk r → OnOk r P → P
where_ok (Ok x) is held = held
where_ok (Err e) is held = absurd cc

pub returns-clause-listed : goal.returns-clause-listed
returns-clause-listed c =
    let few = fewer_free c.args.slots.now.items c.args.free.now c.args.slot c.requires.listed c.requires.used in
    let room : heap_len c.args.free.now < heap_capacity c.args.free.now = omega (arith, few, c.requires.fit) in
    let done = c.push.ensures.succeeds room in
    IsListed-freed c.args.slots.now.items c.args.free.now c.push.new.self c.args.slot _ refl c.requires.listed c.requires.used
    (where_ok c.push.result done c.push.ensures.permutation)
    (where_ok c.push.result done c.push.ensures.heap_order)
    (where_ok c.push.result done c.push.ensures.len)
