use Rattle.std.proofs.Common.{◌≡◌, ℕ, ◌+◌, ◌≤◌, length}
use Rattle.std.specs.HashMap.{spare}
use Rattle.ob_away.specs.Kept.{head_of, capacity, Chained}
use Rattle.ob_away.proofs.Linked.{owns_below}
use Rattle.ob_away.proofs.chains.rechain.Given as goal

abbrev pub invariant-loop-slot : goal.invariant-loop-slot
invariant-loop-slot l = record {
  so_far : (object : ℕ) → Chained l.next.items (head_of l.heads object) (owns_below l.slots l.slot object);
  long : length l.next.items ≡ length l.fn.next.items;
  grown : capacity l.fn.heads ≤ capacity l.heads;
  left : capacity l.fn.heads ≤ spare l.heads + l.slot;
}
