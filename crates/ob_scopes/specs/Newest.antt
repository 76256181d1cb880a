-- A hash map from names to places.
use Rattle.std.specs.Prelude.{◌≡◌, ℕ, if◌then◌else◌, Option, List, Vec}
use Rattle.std.specs.declared.alloc.Global.{Global}
use Rattle.std.specs.declared.hash.FoldHasher.{FoldHasher}
use Rattle.std.specs.declared.hash.BuildHasherDefault.{BuildHasherDefault}
use Rattle.std.specs.HashMap.{HashMap, get_by}
use Rattle.std.specs.Str.{bytes_eq}

abbrev pub Newest : Type 0
Newest = HashMap (Vec ℕ Global) ℕ (BuildHasherDefault FoldHasher)

-- the place of a name
abbrev pub place_in : Newest → (name : List ℕ) → Option ℕ
place_in map name = get_by (λ k. bytes_eq name k.items) map

-- the new map has this place for the name, or none, and for each other name what the old one has
abbrev pub Places : (old new : Newest) → (name : List ℕ) → Option ℕ → Type 0
Places old new name place = (x : List ℕ) → place_in new x ≡ (if bytes_eq name x then place else place_in old x)

-- both have the same places
abbrev pub Same : (old new : Newest) → Type 0
Same old new = (x : List ℕ) → place_in new x ≡ place_in old x
