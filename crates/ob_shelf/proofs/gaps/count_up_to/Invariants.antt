use Rattle.std.proofs.Common.{◌-◌, ℕ, ◌<◌, ◌≤◌, length, get_or}
use Rattle.ob_shelf.specs.declared.blocks.LiveBlock.{LiveBlock}
use Rattle.ob_shelf.proofs.gaps.count_up_to.Given as goal

abbrev pub invariant-loop-low : goal.invariant-loop-low
invariant-loop-low l = record {
  order : l.low ≤ l.high;
  within : l.high ≤ length l.blocks;
  before : (k : ℕ) (d : LiveBlock) → k < l.low → (get_or l.blocks k d).place ≤ l.place;
  after : (k : ℕ) (d : LiveBlock) → l.high ≤ k → k < length l.blocks → l.place < (get_or l.blocks k d).place;
}

abbrev pub decreases-loop-low : goal.decreases-loop-low
decreases-loop-low l = l.high - l.low
