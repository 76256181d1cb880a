-- The classes of bytes that the lexical grammar speaks of (C99 5.2.1). A byte is its number in ASCII. Letters and digits
-- are those of names.
use Rattle.std.specs.Prelude.{ℕ, ◌==◌, Bool, true, ◌||◌, List, [], ◌∷◌}
pub use Rattle.ob_base.specs.Names.{is_within, begins_with}
unfoldable pub use Rattle.ob_base.specs.Names.{is_digit, is_letter, is_name_byte}

-- a digit but 0 (C99 6.4.4.1)
unfoldable pub is_nonzero_digit : ℕ → Bool
is_nonzero_digit c = is_within 49 57 c

-- an octal digit (C99 6.4.4.1)
unfoldable pub is_octal_digit : ℕ → Bool
is_octal_digit c = is_within 48 55 c

-- a hexadecimal digit (C99 6.4.4.1)
unfoldable pub is_hex_digit : ℕ → Bool
is_hex_digit c = is_within 48 57 c || (is_within 65 70 c || is_within 97 102 c)

-- a white-space byte: horizontal tab, line feed, vertical tab, form feed, carriage return, space
unfoldable pub is_white : ℕ → Bool
is_white c = is_within 9 13 c || c == 32

-- a space or a horizontal tab
unfoldable pub is_blank : ℕ → Bool
is_blank c = c == 32 || c == 9

-- a line ends here: the text does, or a line feed follows
abbrev pub ends_line : List ℕ → Bool
ends_line [] = true
ends_line (c ∷ cs) = c == 10
