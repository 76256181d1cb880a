-- Conversion to an integer type (C99 6.3.1.3): the number of the type that is congruent to the
-- given one modulo 2 ^ width. C99 asks this for unsigned types and leaves it open for signed ones.
use Rattle.std.specs.Prelude.{◌≡◌, ℕ, ◌^◌, ◌-◌, ℤ, pos, ◌+ℤ◌, ◌-ℤ◌, ◌*ℤ◌, unsigned_abs, nat_lt, if◌then◌else◌}
use Rattle.std.specs.Int.{int_rem_euclid}
use Rattle.ob_words.specs.declared.types.IntType.{IntType}
use Rattle.ob_words.specs.Types.{width, least, IsNumber}

-- a and b differ by a multiple of m
abbrev pub IsCongruent : ℕ → ℤ → ℤ → Type 0
IsCongruent m a b = (k : ℤ) × (a ≡ b +ℤ k *ℤ pos m)

-- the least natural number that is congruent to z modulo m
unfoldable pub residue : ℕ → ℤ → ℕ
residue m z = unsigned_abs (int_rem_euclid z (pos m))

-- n converted to t: as far above the least number of t as n is, modulo 2 ^ width
unfoldable pub convert : IntType → ℤ → ℤ
convert t n = least t +ℤ pos (residue (2 ^ width t) (n -ℤ least t))

-- z is the one number of t that is congruent to n modulo 2 ^ width
pub record IsConversion (t : IntType) (n z : ℤ) : Type 0 where
  pub is_number : IsNumber t z
  pub is_congruent : IsCongruent (2 ^ width t) z n
  pub only : (other : ℤ) → IsNumber t other → IsCongruent (2 ^ width t) other n → other ≡ z

-- the number that has these bits in two's complement (6.2.6.2): the highest bit is worth -2 ^ (width - 1)
abbrev pub twos_complement : ℕ → ℕ → ℤ
twos_complement k bits = if nat_lt bits (2 ^ (k - 1)) then pos bits else pos bits -ℤ pos (2 ^ k)
