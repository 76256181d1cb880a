-- Division that truncates, division that rounds down, promotion and results.
use Rattle.std.proofs.Common.{◌≡◌, ℕ, zero, suc, ◌/◌, ◌%◌, ◌<◌, ◌≤◌, Bool, true, false, refl, sym, subst, arith, mod-lt, div-add-mod'}
use Rattle.std.specs.Prelude.{◌≢◌, ℤ, pos, negsuc, ◌+ℤ◌, ◌*ℤ◌, ◌≤ℤ◌, ◌<ℤ◌, int_div, int_rem, unsigned_abs, IfOk, IsErr, IsTrue, ◌↔◌, ◌&&◌, if◌then◌else◌, Result, Ok, Err}
use Rattle.std.proofs.lemmas.Bool.Decides.{Decides-int_eq}
use native.Mathlib.Nat.{mod-le}
use Rattle.std.specs.Ordering.{int_eq}
use Rattle.std.proofs.lemmas.Int.{ints, quot-rem, rem_below}
use borrow.Author.Differences.{sum_is_lem, product_is, below_in, at_most_in}
use Rattle.ob_words.specs.declared.types.IntType.{IntType}
use Rattle.ob_words.specs.declared.types.IntType.TheVariants.{Char, SChar, UChar, Short, UShort, Int, UInt, Long, ULong, LLong, ULLong}
use Rattle.ob_words.specs.declared.types.BinOp.{BinOp}
use Rattle.ob_words.specs.declared.types.DivideByZero.{DivideByZero}
use Rattle.ob_words.specs.Types.{width, IsNumber, promote}
use Rattle.ob_words.specs.Conversion.{convert}
use Rattle.ob_words.specs.Operators.{IsDivision, floor_div, binary, exact, divides, divide_by_zero}
use Rattle.ob_words.proofs.Conversions.{convert_number}

-- the remainder has no other sign than what is divided
not_below : (a b : ℤ) → pos 0 ≤ℤ a → pos 0 ≤ℤ int_rem a b
not_below (pos a) b h = omega (arith, ints)
not_below (negsuc a) b h = absurd (omega (arith, ints))

not_above : (a b : ℤ) → a ≤ℤ pos 0 → int_rem a b ≤ℤ pos 0
not_above (pos zero) b h = at_most_in (pos (0 % unsigned_abs b)) (pos 0) (omega (arith, mod-le 0 (unsigned_abs b)))
not_above (pos (suc a)) b h = absurd (omega (arith, ints))
not_above (negsuc a) b h = omega (arith, ints)

some_divisor : (b : ℤ) → b ≢ pos 0 → 0 < unsigned_abs b
some_divisor (pos zero) h = absurd (h refl)
some_divisor (pos (suc b)) h = omega arith
some_divisor (negsuc b) h = omega arith

pub division : (a b : ℤ) → b ≢ pos 0 → IsDivision a b (int_div a b) (int_rem a b)
division a b h = record {
  makes_up = sym (quot-rem a b);
  nearer = rem_below a b (some_divisor b h);
  not_below = not_below a b;
  not_above = not_above a b;
}

pub floor_low : (z : ℤ) (m : ℕ) → 0 < m → (floor_div z m *ℤ pos m) ≤ℤ z
floor_low (pos n) m h = at_most_in (pos (n / m) *ℤ pos m) (pos n) (omega (arith, product_is, div-add-mod' n m))
floor_low (negsuc n) m h = at_most_in (negsuc (n / m) *ℤ pos m) (negsuc n) (omega (arith, product_is, div-add-mod' n m, mod-lt n h))

pub floor_high : (z : ℤ) (m : ℕ) → 0 < m → z <ℤ (floor_div z m *ℤ pos m +ℤ pos m)
floor_high (pos n) m h = below_in (pos n) (pos (n / m) *ℤ pos m +ℤ pos m) (omega (arith, product_is, sum_is_lem, div-add-mod' n m, mod-lt n h))
floor_high (negsuc n) m h = below_in (negsuc n) (negsuc (n / m) *ℤ pos m +ℤ pos m) (omega (arith, product_is, sum_is_lem, div-add-mod' n m, mod-lt n h))

-- the answer by the two tests
abbrev answer : Bool → Bool → ℤ → Result ℤ DivideByZero
answer d e z = if d && e then Err divide_by_zero else Ok z

-- whichever way the test goes, an answer is a number of the type
if_number : (t : IntType) (b : Bool) (z : ℤ) → IsNumber t z → IfOk (if b then Err divide_by_zero else Ok z) (IsNumber t)
if_number t true z h = tt
if_number t false z h = h

pub result_number : (op : BinOp) (t : IntType) (a b : ℤ) → IfOk (binary op t a b) (IsNumber t)
result_number op t a b = if_number t (divides op && int_eq b (pos 0)) (convert t (exact op t a b)) (convert_number t (exact op t a b))

-- an answer is an error exactly where both tests hold
refused_by : (d e : Bool) (z : ℤ) → IsErr (answer d e z) → (d ≡ true) × (e ≡ true)
refused_by true true z h = (refl, refl)
refused_by true false z h = absurd (cc)
refused_by false e z h = absurd (cc)

error_by : (d e : Bool) (z : ℤ) → d ≡ true → e ≡ true → IsErr (answer d e z)
error_by d e z p q = subst (λ x. IsErr (answer x e z)) (sym p) (subst (λ x. IsErr (answer true x z)) (sym q) refl)

pub refused : (op : BinOp) (t : IntType) (a b : ℤ) → IsErr (binary op t a b) ↔ (IsTrue (divides op) × (b ≡ pos 0))
refused op t a b =
    let z = convert t (exact op t a b) in
    let test = Decides-int_eq b (pos 0) in (
      λ h. let both = refused_by (divides op) (int_eq b (pos 0)) z h in (both.0, test.0 both.1),
      λ h. error_by (divides op) (int_eq b (pos 0)) z h.0 (test.1 h.1),
    )

pub promote_narrow : (t : IntType) → width t < 32 → promote t ≡ Int
promote_narrow Char h = refl
promote_narrow SChar h = refl
promote_narrow UChar h = refl
promote_narrow Short h = refl
promote_narrow UShort h = refl
promote_narrow Int h = refl
promote_narrow UInt h = absurd (omega arith)
promote_narrow Long h = absurd (omega arith)
promote_narrow ULong h = absurd (omega arith)
promote_narrow LLong h = absurd (omega arith)
promote_narrow ULLong h = absurd (omega arith)

pub promote_wide : (t : IntType) → 32 ≤ width t → promote t ≡ t
promote_wide Char h = absurd (omega arith)
promote_wide SChar h = absurd (omega arith)
promote_wide UChar h = absurd (omega arith)
promote_wide Short h = absurd (omega arith)
promote_wide UShort h = absurd (omega arith)
promote_wide Int h = refl
promote_wide UInt h = refl
promote_wide Long h = refl
promote_wide ULong h = refl
promote_wide LLong h = refl
promote_wide ULLong h = refl
