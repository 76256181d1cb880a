-- Results as words, and the integers that they are computed with, which fit their types.
use Rattle.std.proofs.Common.{◌≡◌, ℕ, ◌*◌, ◌^◌, ◌<◌, ◌≤◌, Bool, true, false, cond, Some, None, Result, Ok, Err, ℤ, ◌+ℤ◌, ◌*ℤ◌, unsigned_abs, w64, to_z, of_z, refl, ap, ◌∙◌, arith}
use Rattle.std.proofs.Math.Nat.{mul-le-mul}
use Rattle.std.specs.Prelude.{FitsSigned}
use mir.Val.{bool_byte}
use Rattle.std.specs.Int.{w128}
use Rattle.std.proofs.lemmas.Int.{ints, fits_signed_from_abs, to_z-of_z, unsigned_abs-mul}
use borrow.Author.Differences.{abs_is}
use Rattle.ob_words.specs.declared.types.DivideByZero.{DivideByZero}
use Rattle.ob_words.specs.declared.types.IntType.TheVariants.{Long}
use Rattle.ob_words.specs.Types.{IsNumber}
use Rattle.ob_words.specs.Conversion.{convert}
use Rattle.ob_words.specs.Words.{word}
use Rattle.ob_words.proofs.Congruence.{residue_same}
use Rattle.ob_words.proofs.Conversions.{convert_congruent}
use Rattle.ob_model.specs.declared.endings.Ending.TheVariants as ending
use Rattle.ob_model.specs.Accesses.{is_far}
use Rattle.ob_code.specs.Machine.{flag, set_result, set_word, slide}
use Rattle.ob_code.specs.State.{State, stops}
use Rattle.ob_machine.specs.Executions.{near_word, result_word}

-- a truth value as a word
pub flag_is : (b : Bool) → bool_byte b ≡ flag b
flag_is true = refl
flag_is false = refl

-- a result by its word
pub set_result_some : (r : Result ℤ DivideByZero) (a w : ℕ) (s : State) → result_word r ≡ Some w → set_result r a s ≡ set_word s a w
set_result_some (Ok n) a w s e = let same : word n ≡ w = cc in ap (set_word s a) same
set_result_some (Err d) a w s e = cc

near_some : (far : Bool) (d : ℤ) (a w : ℕ) (s : State) → cond far None (Some (word d)) ≡ Some w → cond far (stops ending.Far s) (set_word s a (word d)) ≡ set_word s a w
near_some true d a w s e = cc
near_some false d a w s e = let same : word d ≡ w = cc in ap (set_word s a) same

-- a displacement by its word
pub slide_some : (d : ℤ) (a w : ℕ) (s : State) → near_word d ≡ Some w → slide d a s ≡ set_word s a w
slide_some d a w s e = near_some (is_far d) d a w s e

-- a displacement, a size and their product fit
product_bound : (size count : ℤ) → unsigned_abs size ≤ 4194304 → unsigned_abs count ≤ 2 ^ 63 → unsigned_abs (size *ℤ count) ≤ 4194304 * 2 ^ 63
product_bound size count small h = rw unsigned_abs-mul (mul-le-mul small h)

long_bound : (z : ℤ) → IsNumber Long z → unsigned_abs z ≤ 2 ^ 63
long_bound z h = let from_least = h.from_least in let below_past = h.below_past in omega (arith, ints, abs_is z)

sum_bound : (a b : ℤ) → unsigned_abs a ≤ 2 ^ 63 → unsigned_abs b ≤ 4194304 * 2 ^ 63 → unsigned_abs (a +ℤ b) < 2 ^ 127
sum_bound a b p q = omega (arith, ints, abs_is a, abs_is b, abs_is (a +ℤ b))

-- a narrow number is kept by a wide variable
pub wide_is : (z : ℤ) → FitsSigned w64 z → unsigned_abs z ≤ 2 ^ 63 → to_z w128 (of_z w128 (to_z w64 (of_z w64 z))) ≡ z
wide_is z fits small =
    let narrow : to_z w64 (of_z w64 z) ≡ z = to_z-of_z w64 z fits in
    ap (λ n. to_z w128 (of_z w128 n)) narrow ∙ to_z-of_z w128 z (fits_signed_from_abs w128 z (omega (arith, small)))

pub scaled_is : (start size count : ℤ) → FitsSigned w128 start → FitsSigned w64 size → FitsSigned w128 count → IsNumber Long start → unsigned_abs size ≤ 4194304 → IsNumber Long count → to_z w128 (of_z w128 (to_z w128 (of_z w128 start) +ℤ to_z w128 (of_z w128 (to_z w128 (of_z w128 (to_z w64 (of_z w64 size))) *ℤ to_z w128 (of_z w128 count))))) ≡ start +ℤ size *ℤ count
scaled_is start size count fits_start fits_size fits_count s small n =
    let product : unsigned_abs (size *ℤ count) ≤ 4194304 * 2 ^ 63 = product_bound size count small (long_bound count n) in
    let start_is : to_z w128 (of_z w128 start) ≡ start = to_z-of_z w128 start fits_start in
    let count_is : to_z w128 (of_z w128 count) ≡ count = to_z-of_z w128 count fits_count in
    let size_is : to_z w128 (of_z w128 (to_z w64 (of_z w64 size))) ≡ size = wide_is size fits_size (omega arith) in
    let product_is : to_z w128 (of_z w128 (size *ℤ count)) ≡ size *ℤ count = to_z-of_z w128 (size *ℤ count) (fits_signed_from_abs w128 (size *ℤ count) (omega (arith, product))) in
    let sum_is : to_z w128 (of_z w128 (start +ℤ size *ℤ count)) ≡ start +ℤ size *ℤ count = to_z-of_z w128 (start +ℤ size *ℤ count) (fits_signed_from_abs w128 (start +ℤ size *ℤ count) (sum_bound start (size *ℤ count) (long_bound start s) product)) in
    (λ i. to_z w128 (of_z w128 (start_is i +ℤ to_z w128 (of_z w128 (size_is i *ℤ count_is i)))))
    ∙ ap (λ z. to_z w128 (of_z w128 (start +ℤ z))) product_is
    ∙ sum_is

-- the word of a number is that of the `long` that it is converted to
pub word_of_long : (n z : ℤ) → z ≡ convert Long n → word z ≡ word n
word_of_long n z is = ap word is ∙ residue_same (2 ^ 64) (convert Long n) n (omega arith) (convert_congruent Long n)
