-- Character constants and string literals (C99 6.4.4.4 and 6.4.5).
use Rattle.std.specs.Prelude.{◌≡◌, ℕ, zero, suc, ℤ, pos, negsuc, ◌+◌, ◌-◌, ◌<◌, ◌⊎◌, List, [], ◌∷◌, ◌++◌, length, take, map, Bool, false, not, nat_lt, nat_le, ◌==◌, ◌||◌, ◌&&◌, Option, Some, None, IsTrue, Contains, take_while, if◌then◌else◌}
use Rattle.ob_tree.specs.Bytes.{is_octal_digit, is_hex_digit}
use Rattle.ob_tree.specs.Constants.{number}
use Rattle.ob_words.specs.declared.types.IntType.{IntType}
use Rattle.ob_words.specs.declared.types.IntType.TheVariants.{Int}

-- The bytes can stand between two quotes: there is no line feed among them, a quote stands only behind
-- a backslash, and the last one is no backslash that would take the quote behind it. A backslash takes
-- the byte behind it, and `taken` says that one stands before the first byte.
abbrev pub is_inside : (quote : ℕ) (taken : Bool) → List ℕ → Bool
is_inside quote taken [] = not taken
is_inside quote taken (c ∷ cs) =
    (not (c == 10) && (taken || not (c == quote))) && is_inside quote (not taken && (c == 92)) cs

-- One character between quotes: a byte that stands for itself, an escape sequence with its value, or
-- a backslash and a byte that begin no escape sequence.
pub data Character : Type 0 where
  Itself : (byte : ℕ) → Character
  Escape : (value : ℕ) → Character
  Unknown : Character

-- the simple escape sequences, by the byte behind the backslash
abbrev pub simple_escape : ℕ → Option ℕ
simple_escape c =
    if c == 110 then Some 10
    else (if c == 116 then Some 9
    else (if c == 114 then Some 13
    else (if c == 97 then Some 7
    else (if c == 98 then Some 8
    else (if c == 102 then Some 12
    else (if c == 118 then Some 11
    else (if c == 92 then Some 92
    else (if c == 39 then Some 39
    else (if c == 34 then Some 34
    else (if c == 63 then Some 63
    else None))))))))))

abbrev pub simple : Option ℕ → Character × ℕ
simple (Some v) = (Character.Escape v, 1)
simple None = (Character.Unknown, 1)

-- a numeric escape sequence, which has `sign` bytes before its digits, or none where there is no digit
abbrev pub numeric : (base : ℕ) (sign : ℕ) → List ℕ → Character × ℕ
numeric base sign digits =
    if length digits == 0 then (Character.Unknown, 1)
    else (Character.Escape (number base digits), sign + length digits)

-- The character that a backslash begins, and how many of the bytes behind the backslash are its own.
-- An octal escape sequence has one to three octal digits, a hexadecimal one has `x` and at least one
-- hexadecimal digit; each is the longest that is possible.
abbrev pub escape_at : List ℕ → Character × ℕ
escape_at [] = (Character.Unknown, 1)
escape_at (c ∷ cs) =
    if is_octal_digit c then numeric 8 0 (take_while is_octal_digit (take 3 (c ∷ cs)))
    else (if c == 120 then numeric 16 1 (take_while is_hex_digit cs)
    else simple (simple_escape c))

-- The characters that bytes spell, read from left to right. The first `own` bytes belong to a character
-- that began before them.
abbrev pub characters_from : (own : ℕ) → List ℕ → List Character
characters_from own [] = []
characters_from (suc own) (c ∷ cs) = characters_from own cs
characters_from zero (c ∷ cs) =
    if c == 92 then (escape_at cs).0 ∷ characters_from (escape_at cs).1 cs
    else Character.Itself c ∷ characters_from 0 cs

abbrev pub characters : List ℕ → List Character
characters body = characters_from 0 body

-- the byte that a character of a string stands for; there is none for an escape over 255
abbrev pub byte_of : Character → Option ℕ
byte_of (Character.Itself c) = Some c
byte_of (Character.Escape v) = if nat_le v 255 then Some v else None
byte_of Character.Unknown = None

-- the value that a `char` has, which is signed
abbrev pub char_value : ℕ → ℤ
char_value v = if nat_lt v 128 then pos v else negsuc (255 - v)

-- the value of a character constant; a byte of 128 and over stands only in strings
abbrev pub value_of : Character → Option ℤ
value_of (Character.Itself c) = if nat_lt c 128 then Some (pos c) else None
value_of (Character.Escape v) = if nat_le v 255 then Some (char_value v) else None
value_of Character.Unknown = None

-- A string literal, and the bytes that it stands for without the final zero.
pub record IsString (text bytes : List ℕ) : Type 0 where
  pub body : List ℕ
  pub text_is : text ≡ 34 ∷ (body ++ 34 ∷ [])
  pub inside : IsTrue (is_inside 34 false body)
  pub bytes_are : map byte_of (characters body) ≡ map Some bytes

-- A character constant, which has one character: its type is int, its value that of a `char`.
pub record IsCharacter (text : List ℕ) (value : ℤ) (ty : IntType) : Type 0 where
  pub body : List ℕ
  pub character : Character
  pub text_is : text ≡ 39 ∷ (body ++ 39 ∷ [])
  pub inside : IsTrue (is_inside 39 false body)
  pub one : characters body ≡ character ∷ []
  pub value_is : value_of character ≡ Some value
  pub type_is : ty ≡ Int

-- the byte before and behind a character constant or a string literal
abbrev pub IsQuote : ℕ → Type 0
IsQuote quote = (quote ≡ 39) ⊎ (quote ≡ 34)

-- A character constant or a string literal begins here, and its line ends before it does.
pub record IsOpenQuote (here : List ℕ) : Type 0 where
  pub quote : ℕ
  pub rest : List ℕ
  pub is_quote : IsQuote quote
  pub here_is : here ≡ quote ∷ rest
  pub no_end : (body after : List ℕ) → rest ≡ body ++ quote ∷ after → IsTrue (is_inside quote false body) → ⊥

-- A character constant or a string literal begins here and ends, and a numeric escape in it is over 255.
pub record IsWideQuote (here : List ℕ) : Type 0 where
  pub quote : ℕ
  pub body : List ℕ
  pub after : List ℕ
  pub value : ℕ
  pub is_quote : IsQuote quote
  pub here_is : here ≡ quote ∷ (body ++ quote ∷ after)
  pub inside : IsTrue (is_inside quote false body)
  pub escape : Contains (characters body) (Character.Escape value)
  pub wide : 255 < value
