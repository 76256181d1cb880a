-- Binary digits of a number, from a place on, and a number in which some of them are replaced.
use Rattle.std.specs.Prelude.{◌≡◌, ℕ, ◌+◌, ◌/◌, ◌%◌, ◌^◌}

-- so many digits from a place on
abbrev pub digits_at : ℕ → ℕ → ℕ → ℕ
digits_at n from count = n / 2 ^ from % 2 ^ count

-- the digits below and above are kept, and those between are others
pub record IsSpliced (from count old digits new : ℕ) : Type 0 where
  pub below : new % 2 ^ from ≡ old % 2 ^ from
  pub between : digits_at new from count ≡ digits
  pub above : new / 2 ^ (from + count) ≡ old / 2 ^ (from + count)
