-- The heap's live blocks, in order of their places.
use Rattle.std.specs.Prelude.{ℕ, List}
use Rattle.ob_model.specs.Heap.{Block}

-- how many bytes the heap has, and the blocks
pub record Places : Type 0 where
  pub heap : ℕ
  pub blocks : List Block
