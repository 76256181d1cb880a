-- Pieces that are put into an image one after another, and the parts of a type that they are for, in the terms of the
-- code, which keeps items in vectors.
use Rattle.std.specs.Prelude.{ℕ, zero, suc, ◌+◌, Bool, true, nat_lt, Option, Some, None, List, [], ◌∷◌, ◌++◌}
use Rattle.ob_tree.specs.Types.{PlainType, PlainMember, PlainStruct, PlainStructs}
use Rattle.ob_tree.specs.Types.{PlainType as type}
use Rattle.ob_tree.specs.Sizes.{Layout, laid, layout, next_offset}
use Rattle.ob_tree.specs.Parts.{Part}
use Rattle.ob_typed.specs.declared.statements.TInit.{TInit}
use Rattle.ob_typed.specs.TypedTree.{PlainImage}
use Rattle.ob_typed.specs.TypedView.{typed_init}
use Rattle.ob_typed.specs.Images.{Piece, offset_of, pieces, placed_bytes, placed_pointers, type_of_part}

abbrev pub placed : PlainImage → List Piece → PlainImage
placed i ps = record { bytes = placed_bytes i.bytes ps; pointers = i.pointers ++ placed_pointers ps }

-- a part that there isn't has no type
abbrev pub given : Option PlainType → PlainType
given None = type.Void
given (Some t) = t

abbrev pub part_pieces : PlainStructs → (at : ℕ) → Option Part → TInit → List Piece
part_pieces structs at p x = pieces structs (type_of_part p) (at + offset_of p) (typed_init x)

-- the pieces of items from number i on
abbrev pub numbered : (pieces : ℕ → TInit → List Piece) → (i : ℕ) → List TInit → List Piece
numbered f i [] = []
numbered f i (x ∷ xs) = f i x ++ numbered f (i + 1) xs

-- element i of an array of so many, or of one whose length isn't known
abbrev pub is_element : (count i : ℕ) → Bool
is_element zero i = true
is_element (suc n) i = nat_lt i (suc n)

-- some members of so many bytes
abbrev pub sized : ℕ → Layout
sized n = record { size = n; align = 1; scalars = 0 }

abbrev pub members_of : Option PlainStruct → List PlainMember
members_of None = []
members_of (Some r) = r.members

-- a member that follows so many bytes, and where it ends
abbrev pub next_part : PlainStructs → (bytes : ℕ) → Option PlainMember → Option Part
next_part structs n None = None
next_part structs n (Some m) = Some (record { offset = next_offset (sized n) (laid (layout structs m.ty)); ty = m.ty })

abbrev pub next_end : PlainStructs → (bytes : ℕ) → Option PlainMember → ℕ
next_end structs n None = n
next_end structs n (Some m) = next_offset (sized n) (laid (layout structs m.ty)) + (laid (layout structs m.ty)).size
