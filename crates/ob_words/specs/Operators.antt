-- The arithmetic operators (C99 6.5.5 to 6.5.12) and the comparisons (6.5.8, 6.5.9) on whole
-- numbers. Each result is computed exactly and then converted to the type, so it wraps.
use Rattle.std.specs.Prelude.{◌≡◌, ◌≢◌, ℕ, ◌/◌, ◌^◌, Bool, true, false, not, ◌&&◌, ℤ, pos, negsuc, ◌+ℤ◌, ◌-ℤ◌, ◌*ℤ◌, ◌≤ℤ◌, ◌<ℤ◌, int_le, int_lt, int_div, int_rem, unsigned_abs, ◌<◌, bit_and, bit_or, bit_xor, Result, Ok, Err, if◌then◌else◌}
use Rattle.std.specs.Ordering.{int_eq}
use Rattle.ob_words.specs.declared.types.IntType.{IntType}
use Rattle.ob_words.specs.declared.types.BinOp.{BinOp}
use Rattle.ob_words.specs.declared.types.BinOp.TheVariants.{Add, Sub, Mul, Div, Rem, And, Or, Xor, Shl, Shr}
use Rattle.ob_words.specs.declared.types.Relation.{Relation}
use Rattle.ob_words.specs.declared.types.Relation.TheVariants.{Lt, Gt, Le, Ge, Eq, Ne}
use Rattle.ob_words.specs.declared.types.DivideByZero.{DivideByZero}
use Rattle.ob_words.specs.Types.{width}
use Rattle.ob_words.specs.Conversion.{convert, residue}

-- the bits of z in the type: its two's complement (6.2.6.2)
abbrev pub bits_of : IntType → ℤ → ℕ
bits_of t z = residue (2 ^ width t) z

-- by how many places a shift by b moves: the non-negative remainder of b by the width
abbrev pub places : IntType → ℤ → ℕ
places t b = residue (width t) b

-- z divided by m, rounded down
abbrev pub floor_div : ℤ → ℕ → ℤ
floor_div (pos n) m = pos (n / m)
floor_div (negsuc n) m = negsuc (n / m)

-- what the operator gives before it is converted: the quotient is truncated toward zero and the
-- remainder has the sign of a; a right shift rounds down
abbrev pub exact : BinOp → IntType → ℤ → ℤ → ℤ
exact Add t a b = a +ℤ b
exact Sub t a b = a -ℤ b
exact Mul t a b = a *ℤ b
exact Div t a b = int_div a b
exact Rem t a b = int_rem a b
exact And t a b = pos (bit_and (bits_of t a) (bits_of t b))
exact Or t a b = pos (bit_or (bits_of t a) (bits_of t b))
exact Xor t a b = pos (bit_xor (bits_of t a) (bits_of t b))
exact Shl t a b = a *ℤ pos (2 ^ places t b)
exact Shr t a b = floor_div a (2 ^ places t b)

-- the operator divides
abbrev pub divides : BinOp → Bool
divides Div = true
divides Rem = true
divides _ = false

-- the operator shifts, so that its right operand may be any number
abbrev pub shifts : BinOp → Bool
shifts Shl = true
shifts Shr = true
shifts _ = false

abbrev pub divide_by_zero : DivideByZero
divide_by_zero = record {}

-- what `a op b` is in type t: refused exactly where a division's right operand is 0
abbrev pub binary : BinOp → IntType → ℤ → ℤ → Result ℤ DivideByZero
binary op t a b =
    if divides op && int_eq b (pos 0) then Err divide_by_zero else Ok (convert t (exact op t a b))

-- what `a r b` answers
abbrev pub compare : Relation → ℤ → ℤ → Bool
compare Lt a b = int_lt a b
compare Gt a b = int_lt b a
compare Le a b = int_le a b
compare Ge a b = int_le b a
compare Eq a b = int_eq a b
compare Ne a b = not (int_eq a b)

-- a stands in relation r to b
abbrev pub Holds : Relation → ℤ → ℤ → Type 0
Holds Lt a b = a <ℤ b
Holds Gt a b = b <ℤ a
Holds Le a b = a ≤ℤ b
Holds Ge a b = b ≤ℤ a
Holds Eq a b = a ≡ b
Holds Ne a b = a ≢ b

-- q and r are the quotient and the remainder of a by b, truncated toward zero (6.5.5)
pub record IsDivision (a b q r : ℤ) : Type 0 where
  pub makes_up : a ≡ q *ℤ b +ℤ r
  pub nearer : unsigned_abs r < unsigned_abs b
  pub not_below : pos 0 ≤ℤ a → pos 0 ≤ℤ r
  pub not_above : a ≤ℤ pos 0 → r ≤ℤ pos 0
