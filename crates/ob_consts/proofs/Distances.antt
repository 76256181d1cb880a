-- Some elements in bytes, which a number of 128 bits holds.
use Rattle.std.proofs.Common.{◌≡◌, ℕ, ◌*◌, ◌-◌, ◌^◌, ◌<◌, ◌≤◌, Bool, true, false, ℤ, pos, ◌-ℤ◌, ◌*ℤ◌, unsigned_abs, to_z, of_z, refl, sym, ap, ◌∙◌, arith}
use Rattle.std.proofs.Math.Nat.{mul-le-mul}
use Rattle.std.specs.Int.{w128}
use Rattle.std.proofs.lemmas.Int.{ints, fits_signed_from_abs, to_z-of_z, to_z_pos, unsigned_abs-mul}
use borrow.Author.Differences.{abs_is}
use Rattle.ob_words.specs.declared.types.IntType.TheVariants.{Long}
use Rattle.ob_words.specs.Types.{IsNumber}
use Rattle.ob_words.specs.Conversion.{convert}
use Rattle.ob_typed.specs.AddressConstants.{distance}

long_bound : (z : ℤ) → IsNumber Long z → unsigned_abs z ≤ 2 ^ 63
long_bound z h = let from_least = h.from_least in let below_past = h.below_past in omega (arith, ints, abs_is z)

product_bound : (scale : ℕ) (z : ℤ) → scale ≤ 2 ^ 64 - 1 → unsigned_abs z ≤ 2 ^ 63 → unsigned_abs (pos scale *ℤ z) ≤ (2 ^ 64 - 1) * 2 ^ 63
product_bound scale z h k = rw unsigned_abs-mul (mul-le-mul h k)

abbrev code_product : ℕ → ℤ → ℤ
code_product scale z = to_z w128 (of_z w128 (to_z w128 scale *ℤ to_z w128 (of_z w128 z)))

product_is : (scale : ℕ) (z : ℤ) → scale < 2 ^ 64 → IsNumber Long z → code_product scale z ≡ pos scale *ℤ z
product_is scale z h n =
    let bound : unsigned_abs (pos scale *ℤ z) ≤ (2 ^ 64 - 1) * 2 ^ 63 = product_bound scale z (omega (arith, h)) (long_bound z n) in
    let scale_is : to_z w128 scale ≡ pos scale = to_z_pos w128 scale (omega (arith, h)) in
    let z_is : to_z w128 (of_z w128 z) ≡ z = to_z-of_z w128 z (fits_signed_from_abs w128 z (omega (arith, long_bound z n))) in
    (λ i. to_z w128 (of_z w128 (scale_is i *ℤ z_is i)))
    ∙ to_z-of_z w128 (pos scale *ℤ z) (fits_signed_from_abs w128 (pos scale *ℤ z) (omega (arith, bound)))

pub forward : (minus : Bool) (scale : ℕ) (n z : ℤ) → minus ≡ false → scale < 2 ^ 64 → z ≡ convert Long n → IsNumber Long z → code_product scale z ≡ distance minus scale n
forward minus scale n z off h is k = product_is scale z h k ∙ ap (λ y. pos scale *ℤ y) is ∙ ap (λ b. distance b scale n) (sym off)

pub back : (minus : Bool) (scale : ℕ) (n z : ℤ) → minus ≡ true → scale < 2 ^ 64 → z ≡ convert Long n → IsNumber Long z → to_z w128 (of_z w128 (pos 0 -ℤ code_product scale z)) ≡ distance minus scale n
back minus scale n z on h is k =
    let p = pos scale *ℤ z in
    let bound : unsigned_abs (pos scale *ℤ z) ≤ (2 ^ 64 - 1) * 2 ^ 63 = product_bound scale z (omega (arith, h)) (long_bound z k) in
    let small : unsigned_abs (pos 0 -ℤ pos scale *ℤ z) < 2 ^ 127 = omega (arith, ints, bound, abs_is (pos scale *ℤ z), abs_is (pos 0 -ℤ pos scale *ℤ z)) in
    ap (λ y. to_z w128 (of_z w128 (pos 0 -ℤ y))) (product_is scale z h k)
    ∙ to_z-of_z w128 (pos 0 -ℤ pos scale *ℤ z) (fits_signed_from_abs w128 (pos 0 -ℤ pos scale *ℤ z) small)
    ∙ ap (λ y. pos 0 -ℤ pos scale *ℤ y) is ∙ ap (λ b. distance b scale n) (sym on)
