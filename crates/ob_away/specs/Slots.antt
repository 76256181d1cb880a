-- The table of out-of-bounds descriptors, and its slots once an object's are freed.
use Rattle.std.specs.Prelude.{ℕ, ◌==◌, Bool, Option}
use Rattle.ob_model.specs.Descriptors.{Pair, Slots, is_dying, surviving_pairs}

-- the slots, and how many pairs may stand at a time
pub record Descriptors : Type 0 where
  pub limit : ℕ
  pub slots : Slots

-- whether a slot holds a pair of this object
abbrev pub is_of : ℕ → Option Pair → Bool
is_of object slot = is_dying (λ other. object == other) slot

abbrev pub without : ℕ → Slots → Slots
without object slots = surviving_pairs (λ other. object == other) slots
