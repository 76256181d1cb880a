-- The store of granules outside of objects: the bounded list of them, and how many entries the list takes.
use Rattle.std.specs.Prelude.{ℕ, ℤ, Bool, ◌==◌, ◌&&◌, List, length, Option, is_none}
use Rattle.std.specs.Option.{option_map}
use Rattle.ob_model.specs.Bounded.{Listed, listed_cell, dropped}
use Rattle.ob_model.specs.declared.values.Cell.{Cell}
use Rattle.ob_stray.specs.declared.store.Dropped.{Dropped}

pub record BoundedList : Type 0 where
  pub cap : ℕ
  pub listed : List (Listed Cell)

-- the entry that leaves, as a store answers it
abbrev pub as_dropped : Listed Cell → Dropped
as_dropped e = record { object = e.object; granule = e.granule; cell = e.cell }

-- what a store answers
abbrev pub answer_of : BoundedList → ℕ → ℤ → Cell → Option Dropped
answer_of s object granule cell = option_map as_dropped (dropped s.cap object granule cell s.listed)

-- whether a store makes an entry leave: its granule is new and the list is full
abbrev pub drops : BoundedList → ℕ → ℤ → Bool
drops s object granule = is_none (listed_cell object granule s.listed) && (length s.listed == s.cap)
