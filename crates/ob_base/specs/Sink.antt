-- What a sink has taken, and what a sink that counts tells of it.
use Rattle.std.specs.Prelude.{◌≡◌, ℕ, ◌+◌, ◌-◌, ◌%◌, ◌^◌, min, List, [], ◌∷◌, length, take, sum, Option, None}
use Rattle.std.specs.Option.{option_map}
use Rattle.std.specs.Io.KnownBytes.{append_known}

-- the number of bytes, up to the greatest number of 64 bits, and their sum modulo 65,536
pub record Tally : Type 0 where
  pub count : ℕ
  pub total : ℕ

-- a sink that tells no tally
abbrev pub no_tally : Option Tally
no_tally = None

-- the tally after the bytes of a piece, which is the same after none
abbrev pub tally_after : Tally → List ℕ → Tally
tally_after t [] = t
tally_after t (byte ∷ piece) = record { count = min (t.count + length (byte ∷ piece)) (2 ^ 64 - 1); total = (t.total + sum (byte ∷ piece)) % 65536 }

-- the tally after a piece, where it is told
abbrev pub tally_known : Option Tally → List ℕ → Option Tally
tally_known tally piece = option_map (λ t. tally_after t piece) tally

-- a sink took some prefix of the bytes that were to be written, and tallied just these
abbrev pub TakesPrefix : Option (List ℕ) → Option (List ℕ) → Option Tally → Option Tally → List ℕ → Type 0
TakesPrefix taken_before taken_now tally_before tally_now bytes =
    (count : ℕ) × ((taken_now ≡ append_known taken_before (take count bytes)) × (tally_now ≡ tally_known tally_before (take count bytes)))
