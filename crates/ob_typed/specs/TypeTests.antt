-- Tests on types (C99 6.2.5, 6.2.7).
use Rattle.std.specs.Prelude.{ℕ, Bool, true, false, nat_eq, ◌&&◌}
use Rattle.ob_words.specs.declared.types.IntType.{IntType}
use Rattle.ob_words.specs.declared.types.IntType.TheVariants.{Char, SChar, UChar, Short, UShort, Int, UInt, Long, ULong, LLong, ULLong}
use Rattle.std.specs.Prelude.{List, [], ◌∷◌}
use Rattle.ob_tree.specs.Types.{PlainType}
use Rattle.ob_tree.specs.Types.{PlainType as type}

-- the integer types in order
abbrev pub int_number : IntType → ℕ
int_number Char = 0
int_number SChar = 1
int_number UChar = 2
int_number Short = 3
int_number UShort = 4
int_number Int = 5
int_number UInt = 6
int_number Long = 7
int_number ULong = 8
int_number LLong = 9
int_number ULLong = 10

abbrev pub same_int : IntType → IntType → Bool
same_int a b = nat_eq (int_number a) (int_number b)

abbrev pub same_type : PlainType → PlainType → Bool
same_type type.Void type.Void = true
same_type (type.Int a) (type.Int b) = same_int a b
same_type (type.Pointer t) (type.Pointer u) = same_type t u
same_type (type.Array t m) (type.Array u n) = nat_eq m n && same_type t u
same_type (type.Struct m) (type.Struct n) = nat_eq m n
same_type _ _ = false

abbrev pub same_types : List PlainType → List PlainType → Bool
same_types [] [] = true
same_types (t ∷ ts) (u ∷ us) = same_type t u && same_types ts us
same_types _ _ = false

abbrev pub is_void : PlainType → Bool
is_void type.Void = true
is_void _ = false

abbrev pub is_struct : PlainType → Bool
is_struct (type.Struct n) = true
is_struct _ = false

-- a number or a pointer, which a controlling expression has to be (6.8.4, 6.8.5)
abbrev pub is_scalar : PlainType → Bool
is_scalar (type.Int k) = true
is_scalar (type.Pointer t) = true
is_scalar _ = false

-- a value that may not be used: there is none, or it is a structure
abbrev pub is_unusable : PlainType → Bool
is_unusable type.Void = true
is_unusable (type.Struct n) = true
is_unusable _ = false

abbrev pub is_char : IntType → Bool
is_char Char = true
is_char SChar = true
is_char UChar = true
is_char _ = false
