-- How many bytes each member of a structure lies behind its begin, in order (C99 6.7.2.1).
use Rattle.std.specs.Prelude.{ℕ, Option, Some, None, List, [], ◌∷◌, length, slice_get}
use Rattle.ob_tree.specs.Types.{PlainMember, PlainStruct, PlainStructs}
use Rattle.ob_tree.specs.Sizes.{Layout, appended, laid, next_offset, no_layout, struct_layout, type_layout}

-- from some members on
abbrev pub offsets_from : (known : ℕ → Option Layout) → (before : Layout) → List PlainMember → List ℕ
offsets_from known l [] = []
offsets_from known l (m ∷ ms) =
    let p = laid (type_layout known m.ty) in
    next_offset l p ∷ offsets_from known (appended l p) ms

abbrev pub row_offsets : (known : ℕ → Option Layout) → Option PlainStruct → List ℕ
row_offsets known None = []
row_offsets known (Some r) = offsets_from known no_layout r.members

-- of the members of the structure of a number
abbrev pub offsets : PlainStructs → (number : ℕ) → List ℕ
offsets structs number = row_offsets (struct_layout (length structs) structs) (slice_get structs number)
