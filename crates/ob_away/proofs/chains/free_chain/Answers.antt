use Rattle.std.proofs.Common.{◌≡◌, ℕ, true, false, length, Some, None, arith, ap, sym, ◌∙◌}
use Rattle.std.proofs.lemmas.List.{length-set}
use Rattle.ob_model.specs.Descriptors.{Slots, pair_count}
use Rattle.ob_away.specs.Slots.{without}
use Rattle.ob_away.specs.Kept.{owns}
use Rattle.ob_away.proofs.FreeSlots.{freed_count}
use Rattle.ob_away.proofs.Linked.{within_owned, chained-freed, without-freed, without-ended}
use Rattle.ob_away.proofs.chains.free_chain.Goals as goal

pub loop-slot-smaller : goal.loop-slot-smaller
loop-slot-smaller c =
    let own : owns c.loop-slot.slots.items c.args.object c.in-Some.slot ≡ true = ap (λ (xs : Slots). owns xs c.args.object c.in-Some.slot) (sym c.as_slice.ensures.value) ∙ c.in-Some.ensures.1 in
    omega (arith, freed_count c.loop-slot.slots.items c.in-Some.slot (within_owned c.loop-slot.slots.items c.args.object c.in-Some.slot own).1, ap pair_count c.free_slot.ensures.slots)

pub loop-slot-preserved : goal.loop-slot-preserved
loop-slot-preserved c =
    let own : owns c.loop-slot.slots.items c.args.object c.in-Some.slot ≡ true = ap (λ (xs : Slots). owns xs c.args.object c.in-Some.slot) (sym c.as_slice.ensures.value) ∙ c.in-Some.ensures.1 in
    record {
      chained = rw c.free_slot.ensures.slots (chained-freed c.args.next.now c.loop-slot.at c.loop-slot.slots.items c.args.object c.in-Some.slot c.in-Some.ensures.0 own c.loop-slot.invariant.chained);
      listed = c.free_slot.ensures.listed;
      left = ap (without c.args.object) c.free_slot.ensures.slots ∙ without-freed c.loop-slot.slots.items c.args.object c.in-Some.slot own ∙ c.loop-slot.invariant.left;
      long = ap length c.free_slot.ensures.slots ∙ length-set c.loop-slot.slots.items c.in-Some.slot None ∙ c.loop-slot.invariant.long;
      grown = omega (arith, c.free_slot.ensures.fit, c.loop-slot.invariant.grown);
      capacity = c.free_slot.ensures.capacity ∙ c.loop-slot.invariant.capacity;
    }

pub returns-clause-slots : goal.returns-clause-slots
returns-clause-slots c =
    let stops : (k : ℕ) → c.loop-slot.at ≡ Some k → owns c.loop-slot.slots.items c.args.object k ≡ false =
    (λ k is. ap (λ (xs : Slots). owns xs c.args.object k) (sym c.as_slice.ensures.value) ∙ c.in_default.ensures k is) in
    sym (without-ended c.args.next.now c.loop-slot.at c.loop-slot.slots.items c.args.object c.loop-slot.invariant.chained stops) ∙ c.loop-slot.invariant.left
