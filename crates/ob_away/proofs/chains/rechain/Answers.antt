use Rattle.std.proofs.Common.{◌≡◌, ◌<◌, length, arith, ap, ◌∙◌, refl}
use Rattle.std.proofs.lemmas.List.{length-set}
use Rattle.ob_away.specs.Kept.{head_of}
use Rattle.ob_away.proofs.Linked.{IsLinked-below, below-more, below-free}
use Rattle.ob_away.proofs.chains.rechain.Goals as goal
use Rattle.ob_away.proofs.chains.rechain.Goals.{in-Some, in_default}

pub loop-slot-preserved : goal.loop-slot-preserved
loop-slot-preserved c =
    elim c.match-held.branch [
      | in-Some w ↦
          let long : c.loop-slot.slot < length c.loop-slot.next.items = omega (arith, c.requires.long, c.loop-slot.invariant.long) in
          let kept : length w.chain.new.next.items ≡ length c.loop-slot.next.items = ap length w.chain.ensures.next ∙ length-set c.loop-slot.next.items c.loop-slot.slot (head_of c.loop-slot.heads w.in-Some.object) in
          record {
            so_far = rw (w.next-is, w.heads-is, w.chain.ensures.next) (below-more c.loop-slot.heads w.chain.new.heads c.loop-slot.next.items c.args.slots.now c.loop-slot.slot w.in-Some.object (w.in-Some.object, w.in-Some.field-0-1) w.in-Some.is refl long w.chain.ensures.head w.chain.ensures.others c.loop-slot.invariant.so_far);
            long = rw w.next-is (kept ∙ c.loop-slot.invariant.long);
            grown = rw w.heads-is (omega (arith, w.chain.ensures.room, c.loop-slot.invariant.grown));
            left = rw w.heads-is (omega (arith, w.chain.ensures.spare, c.loop-slot.invariant.left));
          }
      | in_default w ↦
          record {
            so_far = rw (w.next-is, w.heads-is) (below-free c.loop-slot.heads c.loop-slot.next.items c.args.slots.now c.loop-slot.slot w.in_default.is c.loop-slot.invariant.so_far);
            long = rw w.next-is c.loop-slot.invariant.long;
            grown = rw w.heads-is c.loop-slot.invariant.grown;
            left = rw w.heads-is (omega (arith, c.loop-slot.invariant.left));
          }
    ]

pub returns-clause-linked : goal.returns-clause-linked
returns-clause-linked c =
    let end : length c.args.slots.now ≡ c.loop-slot.slot = omega (arith, c.loop-slot-test.false, c.loop-slot.auto.slot-end) in
    IsLinked-below c.loop-slot.heads c.loop-slot.next.items c.args.slots.now (rw end c.loop-slot.invariant.so_far)
