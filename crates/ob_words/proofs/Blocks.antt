-- The block of n bytes is the least multiple of 16 above n.
use Rattle.std.proofs.Common.{ℕ, ◌+◌, ◌/◌, refl, arith}
use Rattle.ob_words.specs.Words.{block, IsBlock}

pub block_is : (n : ℕ) → IsBlock n (block n)
block_is n = record {
  multiple = (n / 16 + 1, refl);
  holds_end = omega arith;
  no_less = λ k above. omega arith;
}
