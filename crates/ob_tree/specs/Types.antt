-- Types as plain data (C99 6.2.5), and the structure types of a program (6.7.2.1).
use Rattle.std.specs.Prelude.{ℕ, Bool, true, false, Option, Some, None, List, [], slice_set}
use Rattle.ob_words.specs.declared.types.IntType.{IntType}

-- A type: `void`, an integer type, a pointer to a type, an array of so many elements, or the structure
-- whose row has this number.
pub data PlainType : Type 0 where
  Void : PlainType
  Int : (ty : IntType) → PlainType
  Pointer : (target : PlainType) → PlainType
  Array : (element : PlainType) → (count : ℕ) → PlainType
  Struct : (number : ℕ) → PlainType

-- A member of a structure: the bytes of its name, and its type.
pub record PlainMember : Type 0 where
  pub name : List ℕ
  pub ty : PlainType

-- A structure type: whether its members are known, and those in order.
pub record PlainStruct : Type 0 where
  pub complete : Bool
  pub members : List PlainMember

-- the structure types of a program, numbered from 0
abbrev pub PlainStructs : Type 0
PlainStructs = List PlainStruct

-- a structure without its members yet
abbrev pub unknown_struct : PlainStruct
unknown_struct = record { complete = false; members = [] }

-- the structures, where that of a number has these members
abbrev pub with_members : PlainStructs → (number : ℕ) → List PlainMember → PlainStructs
with_members structs n ms = slice_set structs n (record { complete = true; members = ms })

abbrev pub is_complete_row : Option PlainStruct → Bool
is_complete_row None = false
is_complete_row (Some r) = r.complete
