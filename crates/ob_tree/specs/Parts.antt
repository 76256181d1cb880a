-- The parts of an array or a structure: its elements or members, each with its offset in bytes and its type
-- (C99 6.5.2.1, 6.7.2.1).
use Rattle.std.specs.Prelude.{ℕ, zero, suc, ◌*◌, Bool, nat_lt, if◌then◌else◌, Option, Some, None, List, [], ◌∷◌, slice_get}
use Rattle.ob_tree.specs.Types.{PlainType, PlainMember, PlainStruct, PlainStructs}
use Rattle.ob_tree.specs.Types.{PlainType as type}
use Rattle.ob_tree.specs.Sizes.{Layout, appended, laid, layout, next_offset, no_layout, size}

pub record Part : Type 0 where
  pub offset : ℕ
  pub ty : PlainType

-- member i of some members, which follow others
abbrev pub member_part : PlainStructs → (before : Layout) → List PlainMember → (i : ℕ) → Option Part
member_part structs l [] i = None
member_part structs l (m ∷ ms) zero = Some (record { offset = next_offset l (laid (layout structs m.ty)); ty = m.ty })
member_part structs l (m ∷ ms) (suc i) = member_part structs (appended l (laid (layout structs m.ty))) ms i

abbrev pub row_part : PlainStructs → Option PlainStruct → (i : ℕ) → Option Part
row_part structs None i = None
row_part structs (Some r) i = member_part structs no_layout r.members i

abbrev pub element_part : PlainStructs → PlainType → (count i : ℕ) → Option Part
element_part structs t zero i = Some (record { offset = i * size structs t; ty = t })
element_part structs t (suc n) i = if nat_lt i (suc n) then Some (record { offset = i * size structs t; ty = t }) else None

-- part i of a type, counted from 0; an array of the length 0 is one whose length isn't known yet
abbrev pub part : PlainStructs → PlainType → (i : ℕ) → Option Part
part structs (type.Array t n) i = element_part structs t n i
part structs (type.Struct number) i = row_part structs (slice_get structs number) i
part structs _ i = None
