-- Numbers as words of 64 bits, and the room that an object's bytes take.
use Rattle.std.specs.Prelude.{◌≡◌, ℕ, ◌+◌, ◌*◌, ◌/◌, ◌^◌, ◌≤◌, ℤ, pos}
use Rattle.ob_words.specs.declared.types.IntType.{IntType}
use Rattle.ob_words.specs.Conversion.{convert, residue}

-- the word of a number: n modulo 2 ^ 64
abbrev pub word : ℤ → ℕ
word n = residue (2 ^ 64) n

-- the number of type t that a word stands for
abbrev pub number : IntType → ℕ → ℤ
number t w = convert t (pos w)

-- the least multiple of 16 that is at least n + 1, so that the address one past n bytes lies inside
abbrev pub block : ℕ → ℕ
block n = 16 * (n / 16 + 1)

-- b is the least multiple of 16 that is at least n + 1
pub record IsBlock (n b : ℕ) : Type 0 where
  pub multiple : (k : ℕ) × (b ≡ 16 * k)
  pub holds_end : n + 1 ≤ b
  pub no_less : (k : ℕ) → n + 1 ≤ 16 * k → b ≤ 16 * k
