-- The ranges of the types, by their bounds.
use Rattle.std.proofs.Common.{ℕ, suc, ◌/◌, ◌^◌, ◌<◌, ◌≤◌, arith, lit<, lit≤, FitsSigned, div-le_self}
use Rattle.std.specs.Prelude.{ℤ, pos, negsuc, neg_ℤ, ◌+ℤ◌, ◌-ℤ◌, ◌≤ℤ◌, ◌<ℤ◌, unsigned_abs, int_div}
use Rattle.std.specs.Int.{w128}
use Rattle.std.proofs.lemmas.Int.{ints, fits_signed_from_abs}
use borrow.Author.Differences.{abs_is}
use Rattle.ob_words.specs.declared.types.IntType.{IntType}
use Rattle.ob_words.specs.declared.types.IntType.TheVariants.{Char, SChar, UChar, Short, UShort, Int, UInt, Long, ULong, LLong, ULLong}
use Rattle.ob_words.specs.Types.{width, least, past, IsNumber}
use Rattle.ob_words.specs.Operators.{floor_div}

-- from 8 to 64 bits
pub record IsWidth (k : ℕ) : Type 0 where
  pub some : 0 < k
  pub in_word : k ≤ 64

pub width_is : (t : IntType) → IsWidth (width t)
width_is Char = record { some = lit< tt; in_word = lit≤ tt }
width_is SChar = record { some = lit< tt; in_word = lit≤ tt }
width_is UChar = record { some = lit< tt; in_word = lit≤ tt }
width_is Short = record { some = lit< tt; in_word = lit≤ tt }
width_is UShort = record { some = lit< tt; in_word = lit≤ tt }
width_is Int = record { some = lit< tt; in_word = lit≤ tt }
width_is UInt = record { some = lit< tt; in_word = lit≤ tt }
width_is Long = record { some = lit< tt; in_word = lit≤ tt }
width_is ULong = record { some = lit< tt; in_word = lit≤ tt }
width_is LLong = record { some = lit< tt; in_word = lit≤ tt }
width_is ULLong = record { some = lit< tt; in_word = lit≤ tt }

-- where the numbers of a type begin and end
pub record IsRange (from to : ℤ) : Type 0 where
  pub lowest : neg_ℤ (pos (2 ^ 63)) ≤ℤ from
  pub at_most_zero : from ≤ℤ pos 0
  pub above_zero : pos 0 <ℤ to
  pub highest : to ≤ℤ pos (2 ^ 64)

pub range_is : (t : IntType) → IsRange (least t) (past t)
range_is Char = record { lowest = record { le = tt }; at_most_zero = record { le = tt }; above_zero = record { lt = tt }; highest = record { le = tt } }
range_is SChar = record { lowest = record { le = tt }; at_most_zero = record { le = tt }; above_zero = record { lt = tt }; highest = record { le = tt } }
range_is UChar = record { lowest = record { le = tt }; at_most_zero = record { le = tt }; above_zero = record { lt = tt }; highest = record { le = tt } }
range_is Short = record { lowest = record { le = tt }; at_most_zero = record { le = tt }; above_zero = record { lt = tt }; highest = record { le = tt } }
range_is UShort = record { lowest = record { le = tt }; at_most_zero = record { le = tt }; above_zero = record { lt = tt }; highest = record { le = tt } }
range_is Int = record { lowest = record { le = tt }; at_most_zero = record { le = tt }; above_zero = record { lt = tt }; highest = record { le = tt } }
range_is UInt = record { lowest = record { le = tt }; at_most_zero = record { le = tt }; above_zero = record { lt = tt }; highest = record { le = tt } }
range_is Long = record { lowest = record { le = tt }; at_most_zero = record { le = tt }; above_zero = record { lt = tt }; highest = record { le = tt } }
range_is ULong = record { lowest = record { le = tt }; at_most_zero = record { le = tt }; above_zero = record { lt = tt }; highest = record { le = tt } }
range_is LLong = record { lowest = record { le = tt }; at_most_zero = record { le = tt }; above_zero = record { lt = tt }; highest = record { le = tt } }
range_is ULLong = record { lowest = record { le = tt }; at_most_zero = record { le = tt }; above_zero = record { lt = tt }; highest = record { le = tt } }

-- a number of a type is small
pub number_small : (t : IntType) (z : ℤ) → IsNumber t z → unsigned_abs z ≤ 2 ^ 64
number_small t z h =
    let from_least = h.from_least in
    let below_past = h.below_past in
    let lowest = (range_is t).lowest in
    let highest = (range_is t).highest in
    omega (arith, ints, abs_is z)

-- a quotient is no further from 0 than what is divided
quotient_le : (a b : ℤ) → unsigned_abs (int_div a b) ≤ unsigned_abs a
quotient_le (pos a) (pos b) = div-le_self a b
quotient_le (pos a) (negsuc b) = omega (arith, ints, abs_is (neg_ℤ (pos (a / suc b))), div-le_self a (suc b))
quotient_le (negsuc a) (pos b) = omega (arith, ints, abs_is (neg_ℤ (pos (suc a / b))), div-le_self (suc a) b)
quotient_le (negsuc a) (negsuc b) = div-le_self (suc a) (suc b)

-- so a quotient fits
pub quotient_fits : (t : IntType) (a b : ℤ) → IsNumber t a → FitsSigned w128 (int_div a b)
quotient_fits t a b h = fits_signed_from_abs w128 (int_div a b) (omega (arith, quotient_le a b, number_small t a h))

-- a number that is shifted to the right stays in the type
pub shifted_number : (t : IntType) (z : ℤ) (m : ℕ) → IsNumber t z → IsNumber t (floor_div z m)
shifted_number t (pos n) m h =
    let from_least = h.from_least in
    let below_past = h.below_past in
    let zero = (range_is t).at_most_zero in
    record { from_least = omega (arith, ints); below_past = omega (arith, ints, div-le_self n m) }
shifted_number t (negsuc n) m h =
    let from_least = h.from_least in
    let above = (range_is t).above_zero in
    record { from_least = omega (arith, ints, div-le_self n m); below_past = omega (arith, ints) }

-- sums and differences of numbers of a type fit
pub sum_fits : (t : IntType) (a b : ℤ) → IsNumber t a → IsNumber t b → FitsSigned w128 (a +ℤ b)
sum_fits t a b h i = omega (arith, ints, number_small t a h, number_small t b i, abs_is a, abs_is b)

pub difference_fits : (t : IntType) (a b : ℤ) → IsNumber t a → IsNumber t b → FitsSigned w128 (a -ℤ b)
difference_fits t a b h i = omega (arith, ints, number_small t a h, number_small t b i, abs_is a, abs_is b)
