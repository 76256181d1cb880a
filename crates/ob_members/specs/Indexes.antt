-- An index of a structure's members: what each name is bound to in a symbol table is the place of its member. They
-- serve the proof: what the place of a member is says `Sizes`.
use Rattle.std.specs.Prelude.{◌≡◌, ℕ, ◌+◌, if◌then◌else◌, Option, Some, None, option_map, option_and_then, List, [], ◌∷◌, Box, slice_get}
use Rattle.std.specs.declared.alloc.Global.{Global}
use Rattle.std.specs.Str.{bytes_eq}
use Rattle.ob_tree.specs.Types.{PlainType, PlainMember, PlainStructs}
use Rattle.ob_tree.specs.Sizes.{IsComplete, member}
use Rattle.ob_layout.specs.Capped.{placed}
use Rattle.ob_scopes.specs.Bindings.{bound}
use Rattle.ob_members.specs.declared.building.Index.{Index}

-- names, each with a member's offset and index
abbrev pub Bindings : Type 0
Bindings = List (List ℕ × (ℕ × ℕ))

-- the first member of a name with its offset, from some members on
abbrev pub place_from : (index : ℕ) → (offsets : List ℕ) → List PlainMember → (name : List ℕ) → Option (ℕ × ℕ)
place_from i os [] name = None
place_from i [] (m ∷ ms) name = None
place_from i (o ∷ os) (m ∷ ms) name = if bytes_eq m.name name then Some (o, i) else place_from (i + 1) os ms name

-- each name is bound to the place of its member, from some members on
abbrev pub AreNamed : (index : ℕ) → (offsets : List ℕ) → List PlainMember → Bindings → Type 0
AreNamed i os ms bs = (name : List ℕ) → bound name bs ≡ place_from i os ms name

abbrev pub IsNamed : (offsets : List ℕ) → List PlainMember → Bindings → Type 0
IsNamed os ms bs = AreNamed 0 os ms bs

-- an index of a complete structure
pub record IsIndex (structs : PlainStructs) (number : ℕ) (bs : Bindings) : Type 0 where
  pub complete : IsComplete structs (PlainType.Struct number)
  pub places : (name : List ℕ) → bound name bs ≡ option_map placed (member structs number name)

abbrev pub index_in : Option (Box Index Global) → Option Index
index_in o = option_map (λ (b : Box Index Global). b.value) o

-- what is kept for the structure of a number
abbrev pub kept_index : List (Option (Box Index Global)) → (number : ℕ) → Option Index
kept_index is n = option_and_then index_in (slice_get is n)

-- each index that is kept is one of its structure
abbrev pub AreRight : PlainStructs → List (Option (Box Index Global)) → Type 0
AreRight structs is = (n : ℕ) (i : Index) → kept_index is n ≡ Some i → IsIndex structs n i.places.bindings
