-- How a store is kept: a cache from granules to cells, and the set of the granules that it lists.
use Rattle.std.specs.Prelude.{◌≡◌, ℕ, Bool, true, not, ◌==◌, is_some, List, map, FitsSigned}
use Rattle.std.specs.Int.{w64}
use Rattle.std.specs.List.{filter}
use Rattle.std.specs.Map.{lookup}
use Rattle.std.specs.BTreeSet.{BTreeSet, contains}
use Rattle.std.specs.declared.cmp.Ordering.{Ordering}
use Rattle.std.specs.Ordering.{nat_cmp, int_cmp, ordering_then}
use Rattle.ob_model.specs.Bounded.{Listed}
use Rattle.ob_model.specs.Descriptors.{Pair, same_pair}
use Rattle.ob_model.specs.declared.values.Cell.{Cell}

-- what the cache holds: a granule of an object, and its cell
abbrev pub Entry : Type 0
Entry = Pair × Cell

abbrev pub entry_of : Entry → Listed Cell
entry_of e = record { object = e.0.0; granule = e.0.1; cell = e.1 }

abbrev pub listing : List Entry → List (Listed Cell)
listing es = map entry_of es

-- whether a granule is listed
abbrev pub is_listed : Pair → List Entry → Bool
is_listed k es = is_some (lookup (same_pair k) es)

-- the entries of other objects
abbrev pub is_other : ℕ → Entry → Bool
is_other object e = not (e.0.0 == object)

abbrev pub others : ℕ → List Entry → List Entry
others object es = filter (is_other object) es

-- granules by object, and then by place
abbrev pub pair_cmp : Pair → Pair → Ordering
pair_cmp p q = ordering_then (nat_cmp p.0 q.0) (int_cmp p.1 q.1)

abbrev pub Index : Type 0
Index = BTreeSet Pair

-- the set has exactly the granules that are listed, and each fits 64 bits
abbrev pub IsIndex : Index → List Entry → Type 0
IsIndex s es = ((p : Pair) → contains pair_cmp s p ≡ is_listed p es) × ((p : Pair) → contains pair_cmp s p ≡ true → FitsSigned w64 p.1)
