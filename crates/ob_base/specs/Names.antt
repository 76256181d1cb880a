-- What a name of the language is, by the bytes of its text (C99 6.4.2.1): a letter or `_`, then letters, digits and `_`,
-- that is no reserved word. A byte is its number in ASCII.
use Rattle.std.specs.Prelude.{ℕ, List, [], ◌∷◌, Bool, false, ◌==◌, nat_le, ◌&&◌, ◌||◌, not, IsTrue, codes}
use Rattle.std.specs.List.{list_all, list_any}
use Rattle.std.specs.Str.{bytes_eq}

-- `low` to `high`
abbrev pub is_within : ℕ → ℕ → ℕ → Bool
is_within low high c = nat_le low c && nat_le c high

-- a digit
unfoldable pub is_digit : ℕ → Bool
is_digit c = is_within 48 57 c

-- a letter or `_`, the nondigits
unfoldable pub is_letter : ℕ → Bool
is_letter c = is_within 97 122 c || (is_within 65 90 c || c == 95)

-- a letter, a digit or `_`
unfoldable pub is_name_byte : ℕ → Bool
is_name_byte c = is_letter c || is_digit c

-- the list has a first byte, and it passes the test
abbrev pub begins_with : (ℕ → Bool) → List ℕ → Bool
begins_with test [] = false
begins_with test (c ∷ cs) = test c

-- The words that are no names: the keywords of C99 6.4.1, among them the type qualifiers and the storage class that read
-- as spaces, and `NULL`, `EOF` and `size_t`.
abbrev pub reserved_words : List (List ℕ)
reserved_words =
    codes "break" ∷ (codes "char" ∷ (codes "continue" ∷ (codes "do" ∷ (codes "else" ∷ (codes "for" ∷ (
    codes "if" ∷ (codes "int" ∷ (codes "long" ∷ (codes "return" ∷ (codes "short" ∷ (codes "signed" ∷ (
    codes "sizeof" ∷ (codes "static" ∷ (codes "struct" ∷ (codes "unsigned" ∷ (codes "void" ∷ (codes "while" ∷ (
    codes "NULL" ∷ (codes "EOF" ∷ (codes "size_t" ∷ (codes "auto" ∷ (codes "case" ∷ (codes "default" ∷ (
    codes "double" ∷ (codes "enum" ∷ (codes "extern" ∷ (codes "float" ∷ (codes "goto" ∷ (codes "inline" ∷ (
    codes "switch" ∷ (codes "typedef" ∷ (codes "union" ∷ (codes "volatile" ∷ (codes "_Bool" ∷ (codes "_Complex" ∷ (
    codes "_Imaginary" ∷ (codes "const" ∷ (codes "register" ∷ (codes "restrict" ∷ ([]))))))))))))))))))))))))))))))))))))))))

abbrev pub is_reserved : List ℕ → Bool
is_reserved text = list_any (bytes_eq text) reserved_words

abbrev pub is_name : List ℕ → Bool
is_name text = begins_with is_letter text && (list_all is_name_byte text && not (is_reserved text))

abbrev pub IsName : List ℕ → Type 0
IsName text = IsTrue (is_name text)
