-- Fields of 1, 2, 4 or 8 bytes in a list of bytes, the lowest byte first (little-endian).
use Rattle.std.specs.Prelude.{◌≡◌, ◌⊎◌, ◌<◌, ℕ, zero, suc, ◌+◌, ◌*◌, ◌/◌, ◌%◌, List, [], ◌∷◌, ◌++◌, take, drop, slice_range}

-- the sizes that a field has
abbrev pub IsFieldSize : ℕ → Type 0
IsFieldSize size = (size ≡ 1) ⊎ ((size ≡ 2) ⊎ ((size ≡ 4) ⊎ (size ≡ 8)))

-- b is a byte
abbrev pub IsByte : ℕ → Type 0
IsByte b = b < 256

-- the number that has these digits to the base 256, the lowest first
unfoldable pub from_bytes : List ℕ → ℕ
from_bytes [] = 0
from_bytes (b ∷ bs) = b + 256 * from_bytes bs

-- the lowest digits of w to the base 256, the lowest first
unfoldable pub low_bytes : ℕ → ℕ → List ℕ
low_bytes zero w = []
low_bytes (suc k) w = w % 256 ∷ low_bytes k (w / 256)

-- the number of the field of `size` bytes at a place
abbrev pub field_at : List ℕ → ℕ → ℕ → ℕ
field_at bytes at size = from_bytes (slice_range bytes at (at + size))

-- the bytes with the low bytes of w in the field of `size` bytes at a place, and all others kept
abbrev pub with_field : List ℕ → ℕ → ℕ → ℕ → List ℕ
with_field bytes at size w = take at bytes ++ (low_bytes size w ++ drop (at + size) bytes)
