-- What a type is made of (C99 6.2.5, 6.7.2.1): the elements or members of an array or a structure, and the scalars in it, which
-- are the numbers and pointers, each with its offset in bytes.
use Rattle.std.specs.Prelude.{ℕ, zero, suc, ◌+◌, List, [], ◌∷◌, ◌++◌, length, Option, Some, None, slice_get, unwrap_or}
use Rattle.ob_model.specs.declared.values.LoadKind.{LoadKind}
use Rattle.ob_model.specs.declared.values.LoadKind.TheVariants.{Num, Ptr}
use Rattle.ob_tree.specs.Parts.{Part, part}
use Rattle.ob_tree.specs.Sizes.{Layout, appended, laid, layout, next_offset, no_layout, size}
use Rattle.ob_tree.specs.Types.{PlainType, PlainMember, PlainStruct, PlainStructs}
use Rattle.ob_tree.specs.Types.PlainType.{Void, Int, Pointer, Array, Struct}

-- ---- elements and members

-- what stands for a part that a type hasn't
abbrev pub no_part : Part
no_part = record { offset = 0; ty = Void }

-- element or member i
abbrev pub part_of : PlainStructs → PlainType → ℕ → Part
part_of structs t i = unwrap_or (part structs t i) no_part

-- the layout of a member's type
abbrev pub member_layout : PlainStructs → PlainMember → Layout
member_layout structs m = laid (layout structs m.ty)

-- ---- scalars

pub record Scalar : Type 0 where
  pub offset : ℕ
  pub kind : LoadKind

-- so many elements of a size from an offset on, each of which has some scalars
abbrev pub elements_scalars : (ℕ → List Scalar) → ℕ → ℕ → ℕ → List Scalar
elements_scalars each bytes zero offset = []
elements_scalars each bytes (suc n) offset = each offset ++ elements_scalars each bytes n (offset + bytes)

-- the scalars of a type from an offset on, where those of a structure are known by its number
abbrev pub type_scalars : (known : ℕ → ℕ → List Scalar) → PlainStructs → PlainType → ℕ → List Scalar
type_scalars known structs Void offset = []
type_scalars known structs (Int t) offset = record { offset = offset; kind = Num t } ∷ []
type_scalars known structs (Pointer t) offset = record { offset = offset; kind = Ptr } ∷ []
type_scalars known structs (Array t n) offset =
    elements_scalars (type_scalars known structs t) (size structs t) n offset
type_scalars known structs (Struct number) offset = known number offset

-- those of some members, which follow others, in a structure at an offset
abbrev pub members_scalars : (known : ℕ → ℕ → List Scalar) → PlainStructs → Layout → List PlainMember → ℕ → List Scalar
members_scalars known structs l [] offset = []
members_scalars known structs l (m ∷ ms) offset =
    type_scalars known structs m.ty (offset + next_offset l (member_layout structs m))
    ++ members_scalars known structs (appended l (member_layout structs m)) ms offset

abbrev pub row_scalars : (known : ℕ → ℕ → List Scalar) → PlainStructs → Option PlainStruct → ℕ → List Scalar
row_scalars known structs None offset = []
row_scalars known structs (Some r) offset = members_scalars known structs no_layout r.members offset

-- those of a structure, where structures hold each other at most so many deep
abbrev pub struct_scalars : (depth : ℕ) → PlainStructs → ℕ → ℕ → List Scalar
struct_scalars zero structs number offset = []
struct_scalars (suc depth) structs number offset =
    row_scalars (struct_scalars depth structs) structs (slice_get structs number) offset

-- the scalars of a type, in order of offset
abbrev pub scalars_of : PlainStructs → PlainType → List Scalar
scalars_of structs t = type_scalars (struct_scalars (length structs) structs) structs t 0
