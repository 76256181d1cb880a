-- What the code computes for each operator is the conversion of the exact result.
use Rattle.std.proofs.Common.{◌≡◌, ℕ, ◌*◌, ◌/◌, ◌%◌, ◌^◌, ◌<◌, Bool, true, false, refl, sym, ap, subst, ◌∙◌, arith, mod-lt, lt_of_le_of_lt, Ok, Err, Result, to_z, of_z, FitsSigned, bit_and, bit_or, div-add-mod'}
use Rattle.std.specs.Prelude.{ℤ, pos, negsuc, ◌+ℤ◌, ◌-ℤ◌, ◌*ℤ◌, int_div, bit_xor, ◌&&◌, if◌then◌else◌}
use Rattle.std.specs.Ordering.{int_eq}
use Rattle.std.specs.Int.{w128}
use Rattle.std.proofs.lemmas.Int.{to_z-of_z, quot_is}
use Rattle.std.proofs.lemmas.Nat.{and_mod, or_mod, xor_mod}
use Rattle.std.proofs.lemmas.Bool.Decides.{Decides-int_eq}
use lib.Signed.{shr_z, mag_shr}
use Rattle.ob_words.specs.declared.types.IntType.{IntType}
use Rattle.ob_words.specs.declared.types.BinOp.{BinOp}
use Rattle.ob_words.specs.declared.types.DivideByZero.{DivideByZero}
use Rattle.ob_words.specs.Types.{width, IsNumber}
use Rattle.ob_words.specs.Conversion.{IsCongruent, convert}
use Rattle.ob_words.specs.Words.{word, number}
use Rattle.ob_words.specs.Operators.{bits_of, places, floor_div, exact, divides, divide_by_zero, binary}
use Rattle.ob_words.proofs.Congruence.{congruent, congruent_refl, congruent_sym, congruent_trans, congruent_product, residue_is, residue_below}
use Rattle.ob_words.proofs.Conversions.{some, convert_same, convert_own, congruent_in, word_congruent}
use Rattle.ob_words.proofs.Ranges.{shifted_number, width_is, sum_fits, difference_fits, quotient_fits}

-- r answers Ok(z)
abbrev pub Answer : ℤ → Result ℤ DivideByZero → Type 0
Answer z r = Ok z ≡ r

-- the answer of an operator that isn't refused
pub answered : (op o : BinOp) (t : IntType) (a b r : ℤ) → op ≡ o → divides o && int_eq b (pos 0) ≡ false → FitsSigned w128 r → r ≡ convert t (exact o t a b) → Answer (to_z w128 (of_z w128 r)) (binary op t a b)
answered op o t a b r is taken fits e =
    ap Ok (to_z-of_z w128 r fits ∙ e)
    ∙ sym (ap (λ x. if x then Err divide_by_zero else Ok (convert t (exact o t a b))) taken)
    ∙ sym (ap (λ x. binary x t a b) is)

remainder_congruent : (m x : ℕ) → IsCongruent m (pos (x % m)) (pos x)
remainder_congruent m x = congruent m (pos (x % m)) (pos x) (x / m) 0 (omega (arith, div-add-mod' x m))

-- the product of words is the word of the product
pub product_word : (t : IntType) (a b : ℤ) → number t (word a * word b % 2 ^ 64) ≡ convert t (a *ℤ b)
product_word t a b =
    let x = word a * word b in
    let product : IsCongruent (2 ^ 64) (pos x) (a *ℤ b) = congruent_product (2 ^ 64) (pos (word a)) a (pos (word b)) b (word_congruent a) (word_congruent b) in
    convert_same t (pos (x % 2 ^ 64)) (a *ℤ b) (congruent_in t (pos (x % 2 ^ 64)) (a *ℤ b) (congruent_trans (2 ^ 64) (pos (x % 2 ^ 64)) (pos x) (a *ℤ b) (remainder_congruent (2 ^ 64) x) product))

pub shifted_word : (t : IntType) (a : ℤ) (k : ℕ) → number t (word a * 2 ^ k % 2 ^ 64) ≡ convert t (a *ℤ pos (2 ^ k))
shifted_word t a k =
    let x = word a * 2 ^ k in
    let y = a *ℤ pos (2 ^ k) in
    let product : IsCongruent (2 ^ 64) (pos x) y = congruent_product (2 ^ 64) (pos (word a)) a (pos (2 ^ k)) (pos (2 ^ k)) (word_congruent a) (congruent_refl (2 ^ 64) (pos (2 ^ k))) in
    convert_same t (pos (x % 2 ^ 64)) y (congruent_in t (pos (x % 2 ^ 64)) y (congruent_trans (2 ^ 64) (pos (x % 2 ^ 64)) (pos x) y (remainder_congruent (2 ^ 64) x) product))

-- the low bits of the word are those of the type
word_bits : (t : IntType) (n : ℤ) → word n % 2 ^ width t ≡ bits_of t n
word_bits t n =
    let m = 2 ^ width t in
    let same : IsCongruent m (pos (word n % m)) n = congruent_trans m (pos (word n % m)) (pos (word n)) n (remainder_congruent m (word n)) (congruent_in t (pos (word n)) n (word_congruent n)) in
    sym (residue_is m n (word n % m) (mod-lt (word n) (some t)) (congruent_sym m (pos (word n % m)) n same))

-- bits of words whose low bits are those of y stand for y
bitwise : (t : IntType) (x y : ℕ) → x % 2 ^ width t ≡ y → number t x ≡ convert t (pos y)
bitwise t x y e =
    let m = 2 ^ width t in
    convert_same t (pos x) (pos y) (subst (λ z. IsCongruent m (pos x) (pos z)) e (congruent_sym m (pos (x % m)) (pos x) (remainder_congruent m x)))

pub and_word : (t : IntType) (a b : ℤ) → number t (bit_and (word a) (word b)) ≡ convert t (pos (bit_and (bits_of t a) (bits_of t b)))
and_word t a b = bitwise t (bit_and (word a) (word b)) (bit_and (bits_of t a) (bits_of t b)) (and_mod (word a) (word b) (width t) ∙ (λ i. bit_and (word_bits t a i) (word_bits t b i)))

pub or_word : (t : IntType) (a b : ℤ) → number t (bit_or (word a) (word b)) ≡ convert t (pos (bit_or (bits_of t a) (bits_of t b)))
or_word t a b = bitwise t (bit_or (word a) (word b)) (bit_or (bits_of t a) (bits_of t b)) (or_mod (word a) (word b) (width t) ∙ (λ i. bit_or (word_bits t a i) (word_bits t b i)))

pub xor_word : (t : IntType) (a b : ℤ) → number t (bit_xor (word a) (word b)) ≡ convert t (pos (bit_xor (bits_of t a) (bits_of t b)))
xor_word t a b = bitwise t (bit_xor (word a) (word b)) (bit_xor (bits_of t a) (bits_of t b)) (xor_mod (word a) (word b) (width t) ∙ (λ i. bit_xor (word_bits t a i) (word_bits t b i)))

floor_is : (z : ℤ) (m : ℕ) → shr_z z m ≡ floor_div z m
floor_is (pos n) m = refl
floor_is (negsuc n) m = refl

-- a right shift stays in the type, so that its conversion changes nothing
pub shifted_down : (t : IntType) (a : ℤ) (m : ℕ) → IsNumber t a → shr_z a m ≡ convert t (floor_div a m)
shifted_down t a m h = floor_is a m ∙ sym (convert_own t (floor_div a m) (shifted_number t a m h))

-- a shift moves by less than the width
pub places_below : (t : IntType) (b : ℤ) → places t b < 64
places_below t b = omega (arith, residue_below (width t) b (width_is t).some, (width_is t).in_word)

-- ---- what the code computes exactly in 128 bits

pub sum_exact : (t : IntType) (a b : ℤ) → FitsSigned w128 a → FitsSigned w128 b → IsNumber t a → IsNumber t b → to_z w128 (of_z w128 (to_z w128 (of_z w128 a) +ℤ to_z w128 (of_z w128 b))) ≡ a +ℤ b
sum_exact t a b f g h i = (λ j. to_z w128 (of_z w128 (to_z-of_z w128 a f j +ℤ to_z-of_z w128 b g j))) ∙ to_z-of_z w128 (a +ℤ b) (sum_fits t a b h i)

pub difference_exact : (t : IntType) (a b : ℤ) → FitsSigned w128 a → FitsSigned w128 b → IsNumber t a → IsNumber t b → to_z w128 (of_z w128 (to_z w128 (of_z w128 a) -ℤ to_z w128 (of_z w128 b))) ≡ a -ℤ b
difference_exact t a b f g h i = (λ j. to_z w128 (of_z w128 (to_z-of_z w128 a f j -ℤ to_z-of_z w128 b g j))) ∙ to_z-of_z w128 (a -ℤ b) (difference_fits t a b h i)

pub quotient_exact : (t : IntType) (a b : ℤ) → FitsSigned w128 a → FitsSigned w128 b → IsNumber t a → to_z w128 (of_z w128 (int_div (to_z w128 (of_z w128 a)) (to_z w128 (of_z w128 b)))) ≡ int_div a b
quotient_exact t a b f g h = quot_is w128 a b f g (quotient_fits t a b h)

-- what the code's test of the divisor says
pub not_zero : (b : ℤ) → (of_z w128 b ≡ 0 → ⊥) → int_eq b (pos 0) ≡ false
not_zero b h = by (int_eq b (pos 0)) refl
  where
    by : (t : Bool) → int_eq b (pos 0) ≡ t → t ≡ false
    by true e = absurd (h (ap (of_z w128) ((Decides-int_eq b (pos 0)).0 e)))
    by false e = refl

pub shifted_exact : (t : IntType) (a b : ℤ) (k : ℕ) → FitsSigned w128 a → FitsSigned w128 b → k ≡ places t (to_z w128 (of_z w128 b)) → IsNumber t a → shr_z (to_z w128 (of_z w128 a)) (2 ^ k) ≡ convert t (floor_div a (2 ^ places t b))
shifted_exact t a b k f g e h =
    let by : k ≡ places t b = e ∙ ap (places t) (to_z-of_z w128 b g) in
    (λ i. shr_z (to_z-of_z w128 a f i) (2 ^ by i)) ∙ shifted_down t a (2 ^ places t b) h

pub shifted_fits : (a : ℤ) (m : ℕ) → FitsSigned w128 a → FitsSigned w128 (shr_z (to_z w128 (of_z w128 a)) m)
shifted_fits a m f =
    let back : FitsSigned w128 (shr_z a m) = record { sfits = lt_of_le_of_lt (mag_shr a m) f.sfits } in
    subst (λ z. FitsSigned w128 (shr_z z m)) (sym (to_z-of_z w128 a f)) back
