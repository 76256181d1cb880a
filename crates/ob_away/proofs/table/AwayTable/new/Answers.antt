use Rattle.std.proofs.Common.{length, ap, arith}
use Rattle.std.proofs.lemmas.Grind.{common_steps}
use Rattle.ob_model.specs.Descriptors.{Slots}
use Rattle.ob_away.specs.Slots.{Descriptors}
use Rattle.ob_away.proofs.Changes.{IsInterned-none, IsIndexed-none}
use Rattle.ob_away.proofs.FreeSlots.{IsListed-none}
use Rattle.ob_away.proofs.Linked.{IsLinked-none}
use Rattle.ob_away.proofs.table.AwayTable.new.Goals as goal

pub invariant_of-result : goal.invariant_of-result
invariant_of-result c =
    let slots = c.in_ok-with_capacity.ensures.items in
    record {
      within = omega (arith, ap length slots);
      interned = IsInterned-none c.in_ok-with_capacity.field-0.items slots;
      indexed = IsIndexed-none c.in_ok-with_capacity-3.field-0 c.in_ok-with_capacity.field-0.items slots;
      listed = IsListed-none c.in_ok-with_capacity.field-0.items c.in_ok-with_capacity-2.field-0 slots c.in_ok-with_capacity-2.ensures.heap_order c.in_ok-with_capacity-2.ensures.items c.in_ok-with_capacity-2.ensures.len;
      linked = IsLinked-none c.in_ok-with_capacity-4.field-0 c.in_ok-vec.field-0.items c.in_ok-with_capacity.field-0.items slots;
      next_long = grind (arith, common_steps, c.in_ok-vec.ensures.len);
      roomy = omega (arith, c.in_ok-with_capacity-3.ensures.spare);
      heads_roomy = omega (arith, c.in_ok-with_capacity-4.ensures.spare);
      slots_fit = omega (arith, c.in_ok-with_capacity.ensures.capacity);
      free_fit = omega (arith, c.in_ok-with_capacity-2.ensures.capacity);
    }

pub returns : goal.returns
returns c =
    let table : Slots → Descriptors = λ xs. record { limit = c.args.limit; slots = xs } in
    ap table c.in_ok-with_capacity.ensures.items
