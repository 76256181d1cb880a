use Rattle.std.proofs.Common.{ℕ, ◌<◌}
use Rattle.ob_shelf.specs.Blocks.{IsShorter}
use Rattle.ob_shelf.proofs.gaps.first_gap.Given as goal

abbrev pub invariant-loop-index : goal.invariant-loop-index
invariant-loop-index l = (k : ℕ) → k < l.index → IsShorter l.heap l.blocks l.size k
