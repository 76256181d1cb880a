-- The object table as a sorted vector.
use Rattle.std.specs.Prelude.{◌≡◌, ◌≢◌, ℕ, ◌<◌, ◌≤◌, List, length, slice_index_or, Option, Some, None}
use Rattle.std.specs.Global.{Vec}
use Rattle.std.specs.Vec.{vec_capacity}
use Rattle.ob_model.specs.declared.objects.Entry.{Entry}
use Rattle.ob_objects.specs.Objects.{IsInOrder}

-- the entries, and how many may stand at a time
pub record Sorted : Type 0 where
  pub most : ℕ
  pub entries : List Entry

-- the first `at` entries are those whose base is at most the address
pub record Splits (entries : List Entry) (address at : ℕ) : Type 0 where
  pub within : at ≤ length entries
  pub before : (k : ℕ) (d : Entry) → k < at → (slice_index_or entries k d).base ≤ address
  pub after : (k : ℕ) (d : Entry) → at ≤ k → k < length entries → address < (slice_index_or entries k d).base

-- the entry at a base stands at this index, or at none
abbrev pub IsIndexOf : List Entry → ℕ → Option ℕ → Type 0
IsIndexOf entries base None = (k : ℕ) (d : Entry) → k < length entries → (slice_index_or entries k d).base ≢ base
IsIndexOf entries base (Some i) = (i < length entries) × ((d : Entry) → (slice_index_or entries i d).base ≡ base)

-- what a table keeps
pub record IsKept (most : ℕ) (entries : Vec Entry) : Type 0 where
  pub in_order : IsInOrder entries.items
  pub few : length entries.items ≤ most
  pub fit : most ≤ vec_capacity entries
