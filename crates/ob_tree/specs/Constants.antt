-- Integer constants (C99 6.4.4.1).
use Rattle.std.specs.Prelude.{◌≡◌, ℕ, ℤ, pos, ◌+◌, ◌-◌, ◌*◌, ◌^◌, ◌≤◌, ◌⊎◌, List, [], ◌∷◌, ◌++◌, length, nat_le, ◌==◌, ◌||◌, Option, Some, None, IsTrue, codes, Contains, find, if◌then◌else◌}
use Rattle.std.specs.List.{list_all}
use Rattle.ob_tree.specs.Bytes.{is_digit, is_nonzero_digit, is_octal_digit, is_hex_digit, is_name_byte, begins_with}
use Rattle.ob_tree.specs.declared.constants.Base.{Base}
use Rattle.ob_tree.specs.declared.constants.Suffix.{Suffix}
use Rattle.ob_words.specs.declared.types.IntType.{IntType}
use Rattle.ob_words.specs.declared.types.IntType.TheVariants.{Int, UInt, Long, ULong, LLong, ULLong}

abbrev pub base_number : Base → ℕ
base_number Base.Decimal = 10
base_number Base.Octal = 8
base_number Base.Hexadecimal = 16

-- what a digit counts: `a` and `A` are 10, `f` and `F` are 15
abbrev pub digit_value : ℕ → ℕ
digit_value c = if nat_le c 57 then c - 48 else (if nat_le c 70 then c - 55 else c - 87)

-- the number that digits spell, the most significant digit first, behind what the digits before them spell
abbrev pub number_from : ℕ → ℕ → List ℕ → ℕ
number_from base before [] = before
number_from base before (c ∷ cs) = number_from base (before * base + digit_value c) cs

abbrev pub number : ℕ → List ℕ → ℕ
number base digits = number_from base 0 digits

-- The text is the constant's digits with their prefix: a decimal constant begins with a digit but 0
-- and has digits, an octal one begins with 0 and has octal digits, a hexadecimal one has `0x` or `0X`
-- and at least one hexadecimal digit.
abbrev pub IsDigits : Base → (text digits : List ℕ) → Type 0
IsDigits Base.Decimal text digits =
    (text ≡ digits) × IsTrue (begins_with is_nonzero_digit digits) × IsTrue (list_all is_digit digits)
IsDigits Base.Octal text digits =
    (text ≡ digits) × IsTrue (begins_with (λ c. c == 48) digits) × IsTrue (list_all is_octal_digit digits)
IsDigits Base.Hexadecimal text digits =
    ((text ≡ codes "0x" ++ digits) ⊎ (text ≡ codes "0X" ++ digits)) × IsTrue (begins_with is_hex_digit digits) × IsTrue (list_all is_hex_digit digits)

-- The integer suffixes: none, or `u` or `U`, or one of `l`, `L`, `ll` and `LL`, or one of each in either
-- order. The longer ones stand first.
abbrev pub suffixes : List (List ℕ × Suffix)
suffixes =
    (codes "ull", Suffix.ULL) ∷ ((codes "uLL", Suffix.ULL) ∷ ((codes "Ull", Suffix.ULL) ∷ ((codes "ULL", Suffix.ULL)
    ∷ ((codes "llu", Suffix.ULL) ∷ ((codes "llU", Suffix.ULL) ∷ ((codes "LLu", Suffix.ULL) ∷ ((codes "LLU", Suffix.ULL)
    ∷ ((codes "ul", Suffix.UL) ∷ ((codes "uL", Suffix.UL) ∷ ((codes "Ul", Suffix.UL) ∷ ((codes "UL", Suffix.UL)
    ∷ ((codes "lu", Suffix.UL) ∷ ((codes "lU", Suffix.UL) ∷ ((codes "Lu", Suffix.UL) ∷ ((codes "LU", Suffix.UL)
    ∷ ((codes "ll", Suffix.LL) ∷ ((codes "LL", Suffix.LL)
    ∷ ((codes "u", Suffix.U) ∷ ((codes "U", Suffix.U) ∷ ((codes "l", Suffix.L) ∷ ((codes "L", Suffix.L)
    ∷ (([], Suffix.Plain) ∷ []))))))))))))))))))))))

-- The text is an integer constant of this base, suffix and value, whatever its type.
pub record IsConstant (text : List ℕ) (base : Base) (suffix : Suffix) (value : ℕ) : Type 0 where
  pub prefixed : List ℕ
  pub digits : List ℕ
  pub ending : List ℕ
  pub text_is : text ≡ prefixed ++ ending
  pub digits_are : IsDigits base prefixed digits
  pub ending_is : Contains suffixes (ending, suffix)
  pub value_is : value ≡ number (base_number base) digits

-- the greatest number of a type that a constant can have
abbrev pub greatest : IntType → ℕ
greatest IntType.Int = 2 ^ 31 - 1
greatest IntType.UInt = 2 ^ 32 - 1
greatest IntType.Long = 2 ^ 63 - 1
greatest IntType.ULong = 2 ^ 64 - 1
greatest IntType.LLong = 2 ^ 63 - 1
greatest IntType.ULLong = 2 ^ 64 - 1
greatest t = 0

-- the types that a constant can have, in the order of the table of C99 6.4.4.1
abbrev pub types : Base → Suffix → List IntType
types Base.Decimal Suffix.Plain = Int ∷ (Long ∷ (LLong ∷ []))
types Base.Decimal Suffix.L = Long ∷ (LLong ∷ [])
types Base.Decimal Suffix.LL = LLong ∷ []
types base Suffix.Plain = Int ∷ (UInt ∷ (Long ∷ (ULong ∷ (LLong ∷ (ULLong ∷ [])))))
types base Suffix.U = UInt ∷ (ULong ∷ (ULLong ∷ []))
types base Suffix.L = Long ∷ (ULong ∷ (LLong ∷ (ULLong ∷ [])))
types base Suffix.UL = ULong ∷ (ULLong ∷ [])
types base Suffix.LL = LLong ∷ (ULLong ∷ [])
types base Suffix.ULL = ULLong ∷ []

-- the first type of the list that can represent the value
abbrev pub type_of : Base → Suffix → ℕ → Option IntType
type_of base suffix value = find (λ t. nat_le value (greatest t)) (types base suffix)

-- The text can be taken as an integer constant of this value and type: the type is the first of its
-- list that can represent the value, and no letter, digit, `_` or `.` follows directly.
pub record IsNumber (text after : List ℕ) (value : ℤ) (ty : IntType) : Type 0 where
  pub base : Base
  pub suffix : Suffix
  pub amount : ℕ
  pub constant : IsConstant text base suffix amount
  pub type_is : type_of base suffix amount ≡ Some ty
  pub value_is : value ≡ pos amount
  pub apart : IsTrue (begins_with (λ c. is_name_byte c || c == 46) after) → ⊥

-- The longest integer constant that begins here has a value that no type of its list can represent.
pub record IsWideConstant (here : List ℕ) : Type 0 where
  pub text : List ℕ
  pub after : List ℕ
  pub base : Base
  pub suffix : Suffix
  pub amount : ℕ
  pub here_is : here ≡ text ++ after
  pub constant : IsConstant text base suffix amount
  pub longest : (t a : List ℕ) (b : Base) (s : Suffix) (n : ℕ) → here ≡ t ++ a → IsConstant t b s n → length t ≤ length text
  pub no_type : type_of base suffix amount ≡ None
