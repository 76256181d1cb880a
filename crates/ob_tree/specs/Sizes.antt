-- Sizes, alignments and members (C99 6.5.3.4, 6.7.2.1). A number of a type takes as many bytes as its
-- width says and stands at a multiple of its size, and so does a pointer, which has eight bytes. The
-- elements of an array lie one behind another. Each member of a structure stands at the least multiple of
-- its alignment that is past the member before; the structure has the greatest alignment of its members,
-- and its size is rounded up to it.
use Rattle.std.specs.Prelude.{◌≡◌, ◌≤◌, ℕ, zero, suc, ◌+◌, ◌-◌, ◌*◌, ◌/◌, ◌%◌, max, Bool, false, IsTrue, nat_le, if◌then◌else◌, Option, Some, None, option_map, option_and_then, List, [], ◌∷◌, length, slice_get, map, sum}
use Rattle.std.specs.Option.{is_some}
use Rattle.std.specs.Str.{bytes_eq}
use Rattle.ob_words.specs.declared.types.IntType.{IntType}
use Rattle.ob_words.specs.Types.{width}
use Rattle.ob_words.specs.Words.{block}
use Rattle.ob_tree.specs.Types.{PlainType, PlainMember, PlainStruct, PlainStructs}

-- what a type takes: its bytes, the alignment of these, and how many numbers and pointers they are
pub record Layout : Type 0 where
  pub size : ℕ
  pub align : ℕ
  pub scalars : ℕ

-- the greatest number of bytes that an object may have
abbrev pub most_bytes : ℕ
most_bytes = 4194304

-- how many bytes of padding follow n bytes up to a multiple of `align`
abbrev pub padding : (n align : ℕ) → ℕ
padding n align = (align - n % align) % align

-- the least multiple of `align` that is at least n
abbrev pub round_up : (n align : ℕ) → ℕ
round_up n align = n + padding n align

-- m is the least multiple of `align` that is at least n
pub record IsRoundUp (n align m : ℕ) : Type 0 where
  pub multiple : (k : ℕ) × (m ≡ align * k)
  pub holds : n ≤ m
  pub no_less : (k : ℕ) → n ≤ align * k → m ≤ align * k

-- a number or a pointer of so many bytes
abbrev pub scalar : ℕ → Layout
scalar bytes = record { size = bytes; align = bytes; scalars = 1 }

abbrev pub int_size : IntType → ℕ
int_size t = width t / 8

-- nothing, before the first member
abbrev pub no_layout : Layout
no_layout = record { size = 0; align = 1; scalars = 0 }

-- so many of a layout, one behind another
abbrev pub repeated : Layout → ℕ → Layout
repeated l n = record { size = l.size * n; align = l.align; scalars = l.scalars * n }

-- where a member stands that follows others
abbrev pub next_offset : (before member : Layout) → ℕ
next_offset l m = round_up l.size m.align

-- some members and one more
abbrev pub appended : (before member : Layout) → Layout
appended l m = record { size = next_offset l m + m.size; align = max l.align m.align; scalars = l.scalars + m.scalars }

-- all members of a structure, with the padding behind them
abbrev pub padded : Layout → Layout
padded l = record { size = round_up l.size l.align; align = l.align; scalars = l.scalars }

-- The layout of a type, where that of a structure is known by its number. `void` has none, nor has what
-- holds a structure without one.
abbrev pub type_layout : (known : ℕ → Option Layout) → PlainType → Option Layout
type_layout known PlainType.Void = None
type_layout known (PlainType.Int t) = Some (scalar (int_size t))
type_layout known (PlainType.Pointer t) = Some (scalar 8)
type_layout known (PlainType.Array t n) = option_map (λ l. repeated l n) (type_layout known t)
type_layout known (PlainType.Struct number) = known number

-- the layout of members, from those before them on, with the padding behind them
abbrev pub members_layout : (known : ℕ → Option Layout) → Layout → List PlainMember → Option Layout
members_layout known l [] = Some (padded l)
members_layout known l (m ∷ ms) = option_and_then (λ p. members_layout known (appended l p) ms) (type_layout known m.ty)

abbrev pub row_layout : (known : ℕ → Option Layout) → Option PlainStruct → Option Layout
row_layout known None = None
row_layout known (Some r) = if r.complete then members_layout known no_layout r.members else None

-- The layout of the structure of a number, where structures hold each other at most so many deep. One that
-- holds itself has none at any depth.
abbrev pub struct_layout : (depth : ℕ) → PlainStructs → ℕ → Option Layout
struct_layout zero structs number = None
struct_layout (suc depth) structs number = row_layout (struct_layout depth structs) (slice_get structs number)

-- The layout of a type: there are not more structures one in another than there are at all.
abbrev pub layout : PlainStructs → PlainType → Option Layout
layout structs t = type_layout (struct_layout (length structs) structs) t

-- of a type without a layout, nothing
abbrev pub laid : Option Layout → Layout
laid None = no_layout
laid (Some l) = l

-- the bytes of a type, their alignment, and how many numbers and pointers they are
abbrev pub size : PlainStructs → PlainType → ℕ
size structs t = (laid (layout structs t)).size

abbrev pub align : PlainStructs → PlainType → ℕ
align structs t = (laid (layout structs t)).align

abbrev pub scalars : PlainStructs → PlainType → ℕ
scalars structs t = (laid (layout structs t)).scalars

abbrev pub has_size : PlainStructs → PlainType → Bool
has_size structs t = is_some (layout structs t)

-- a layout that is known, and small enough for an object
abbrev pub fits_object : Option Layout → Bool
fits_object None = false
fits_object (Some l) = nat_le l.size most_bytes

-- A type that an object can have. It isn't `void`; each structure that it holds, other than behind a
-- pointer, has its members, and none of these holds itself; and it has at most so many bytes.
abbrev pub is_complete : PlainStructs → PlainType → Bool
is_complete structs t = fits_object (layout structs t)

abbrev pub IsComplete : PlainStructs → PlainType → Type 0
IsComplete structs t = IsTrue (is_complete structs t)

-- where a member lies in its structure, which of the members it is, counted from 0, and its type
pub record MemberPlace : Type 0 where
  pub offset : ℕ
  pub index : ℕ
  pub ty : PlainType

-- the first member of a name, from some members on
abbrev pub member_from : (known : ℕ → Option Layout) → (before : Layout) → (index : ℕ) → List PlainMember → (name : List ℕ) → Option MemberPlace
member_from known l i [] name = None
member_from known l i (m ∷ ms) name =
    let p = laid (type_layout known m.ty) in
    if bytes_eq m.name name then Some (record { offset = next_offset l p; index = i; ty = m.ty })
    else member_from known (appended l p) (i + 1) ms name

abbrev pub row_member : (known : ℕ → Option Layout) → Option PlainStruct → (name : List ℕ) → Option MemberPlace
row_member known None name = None
row_member known (Some r) name = member_from known no_layout 0 r.members name

-- the member of a name in the structure of a number
abbrev pub member : PlainStructs → (number : ℕ) → (name : List ℕ) → Option MemberPlace
member structs number name = row_member (struct_layout (length structs) structs) (slice_get structs number) name

-- What a call of a function takes of the stack, in bytes: 16, 16 for each expression and each parameter of
-- it, and the blocks of its automatic objects, which are its parameters and variables.
abbrev pub allowance : PlainStructs → (nodes params : ℕ) → (locals : List PlainType) → ℕ
allowance structs nodes params locals = 16 + 16 * (nodes + params) + sum (map (λ t. block (size structs t)) locals)
