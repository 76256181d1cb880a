-- Numbers as words of the command line.
use Rattle.std.specs.Prelude.{ℕ, ◌+◌, ◌-◌, ◌*◌, Bool, ◌&&◌, nat_le, List, [], ◌∷◌, length, Option, Some, None, if◌then◌else◌}
use Rattle.std.specs.List.{list_all}

abbrev pub is_digit : ℕ → Bool
is_digit byte = nat_le 48 byte && nat_le byte 57

abbrev pub value_from : ℕ → List ℕ → ℕ
value_from value [] = value
value_from value (byte ∷ word) = value_from (10 * value + (byte - 48)) word

-- 1 to 10 decimal digits; leading zeros are allowed
abbrev pub is_number : List ℕ → Bool
is_number word = nat_le 1 (length word) && nat_le (length word) 10 && list_all is_digit word

-- the number that a word spells, where it lies between two bounds, both included
abbrev pub within : ℕ → ℕ → ℕ → Option ℕ
within least most value = if nat_le least value && nat_le value most then Some value else None

abbrev pub number_between : ℕ → ℕ → List ℕ → Option ℕ
number_between least most word = if is_number word then within least most (value_from 0 word) else None
