use Rattle.std.proofs.Common.{◌≡◌, ◌≤◌, length, vec_capacity}
use Rattle.std.specs.BinaryHeap.{heap_capacity}
use Rattle.ob_model.specs.Descriptors.{pair_count}
use Rattle.ob_away.specs.Slots.{without}
use Rattle.ob_away.specs.Kept.{Chained, IsListed, owns}
use Rattle.ob_away.proofs.chains.free_chain.Given as goal

abbrev pub invariant-loop-slot : goal.invariant-loop-slot
invariant-loop-slot l = record {
  chained : Chained l.next l.at (owns l.slots.items l.object);
  listed : IsListed l.free l.slots.items;
  left : without l.object l.slots.items ≡ without l.object l.fn.slots.items;
  long : length l.slots.items ≡ length l.fn.slots.items;
  grown : heap_capacity l.fn.free ≤ heap_capacity l.free;
  capacity : vec_capacity l.slots ≡ vec_capacity l.fn.slots;
}

abbrev pub decreases-loop-slot : goal.decreases-loop-slot
decreases-loop-slot l = pair_count l.slots.items
