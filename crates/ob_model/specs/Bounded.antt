-- The bounded list of granules outside of objects (boundless memory blocks: Rinard and others, ACSAC 2004). It is in order of
-- use, the most recently used first, and lists each granule of each object once at most. It is the same for each type of cell.
use Rattle.std.specs.Prelude.{ℕ, Bool, ◌==◌, ◌&&◌, not, ℤ, List, ◌∷◌, take, Option, Some, None, slice_get}
use Rattle.std.specs.List.{filter, find}
use Rattle.std.specs.Option.{option_map}
use Rattle.std.specs.Ordering.{int_eq}

pub record Listed (C : Type 0) : Type 0 where
  pub object : ℕ
  pub granule : ℤ
  pub cell : C

abbrev pub is_of : {C : Type 0} → ℕ → ℤ → Listed C → Bool
is_of object granule e = (e.object == object) && int_eq e.granule granule

-- the list without a granule
abbrev pub without_granule : {C : Type 0} → ℕ → ℤ → List (Listed C) → List (Listed C)
without_granule object granule es = filter (λ e. not (is_of object granule e)) es

-- the cell that is listed for a granule
abbrev pub listed_cell : {C : Type 0} → ℕ → ℤ → List (Listed C) → Option C
listed_cell object granule es = option_map (λ e. e.cell) (find (is_of object granule) es)

-- a load brings a listed granule to the front
abbrev pub moved_to_front : {C : Type 0} → Option C → ℕ → ℤ → List (Listed C) → List (Listed C)
moved_to_front None object granule es = es
moved_to_front (Some c) object granule es = record { object = object; granule = granule; cell = c } ∷ without_granule object granule es

abbrev pub after_load : {C : Type 0} → ℕ → ℤ → List (Listed C) → List (Listed C)
after_load object granule es = moved_to_front (listed_cell object granule es) object granule es

-- a store puts its cell first, and the last of more than cap entries leaves
abbrev pub put_first : {C : Type 0} → ℕ → ℤ → C → List (Listed C) → List (Listed C)
put_first object granule cell es = record { object = object; granule = granule; cell = cell } ∷ without_granule object granule es

abbrev pub after_store : {C : Type 0} → ℕ → ℕ → ℤ → C → List (Listed C) → List (Listed C)
after_store cap object granule cell es = take cap (put_first object granule cell es)

abbrev pub dropped : {C : Type 0} → ℕ → ℕ → ℤ → C → List (Listed C) → Option (Listed C)
dropped cap object granule cell es = slice_get (put_first object granule cell es) cap

-- the list without the granules of the objects that leave it: those that die and those that are freed
abbrev pub surviving_cells : {C : Type 0} → (ℕ → Bool) → List (Listed C) → List (Listed C)
surviving_cells leaves es = filter (λ e. not (leaves e.object)) es
