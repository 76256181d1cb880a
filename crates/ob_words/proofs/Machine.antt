-- What the code computes in 128 bits, as whole numbers.
use Rattle.std.proofs.Common.{◌≡◌, ℕ, ◌+◌, ◌-◌, ◌*◌, ◌/◌, ◌%◌, ◌^◌, ◌<◌, ◌≤◌, false, sym, ap, ◌∙◌, arith, bit_and, to_z, of_z, mod-lt, lit≤, FitsSigned}
use Rattle.std.specs.Prelude.{ℤ, pos, negsuc, ◌-ℤ◌, unsigned_abs, nat_lt, if◌then◌else◌}
use Rattle.std.specs.Int.{w128}
use Rattle.std.proofs.lemmas.Int.{ints, to_z_pos, to_z-of_z}
use lib.Signed.{lt_z}
use Rattle.std.proofs.lemmas.Nat.{pow_pos, pow-add, and_mask, and_le_r, div-add-mod', one_shl, pow_below}
use Rattle.ob_words.specs.declared.types.IntType.{IntType}
use Rattle.ob_words.specs.declared.types.IntType.TheVariants.{Char, SChar, UChar, Short, UShort, Int, UInt, Long, ULong, LLong, ULLong}
use Rattle.ob_words.specs.Types.{width}
use Rattle.ob_words.specs.Operators.{places}
use Rattle.ob_words.specs.Conversion.{IsCongruent, residue, twos_complement}
use Rattle.ob_words.proofs.Congruence.{congruent, residue_is}

-- the bits of a number below 2 ^ 127 in two's complement have its residue
bits_congruent : (k p : ℕ) (n : ℤ) → k + p ≡ 128 → FitsSigned w128 n → IsCongruent (2 ^ k) n (pos (of_z w128 n % 2 ^ k))
bits_congruent k p (pos a) e f = congruent (2 ^ k) (pos a) (pos (a % 2 ^ k)) 0 (a / 2 ^ k) (omega (arith, div-add-mod' a (2 ^ k)))
bits_congruent k p (negsuc a) e f =
    let x = of_z w128 (negsuc a) in
    let whole : 2 ^ 128 ≡ 2 ^ k * 2 ^ p = ap (λ i. 2 ^ i) (sym e) ∙ pow-add 2 k p in
    congruent (2 ^ k) (negsuc a) (pos (x % 2 ^ k)) (2 ^ p) (x / 2 ^ k) (omega (arith, f.sfits, whole, div-add-mod' x (2 ^ k)))

-- to mask the low bits of a number is to take its residue
pub masked : (k p : ℕ) (n : ℤ) → k + p ≡ 128 → FitsSigned w128 n → bit_and (of_z w128 n) (2 ^ k - 1) ≡ residue (2 ^ k) n
masked k p n e f =
    and_mask (of_z w128 n) k
    ∙ sym (residue_is (2 ^ k) n (of_z w128 n % 2 ^ k) (mod-lt (of_z w128 n) (pow_pos k)) (bits_congruent k p n e f))

-- a power that is shifted into place
pub power_is : (k : ℕ) → k ≤ 64 → to_z w128 (1 * 2 ^ k % 2 ^ 128) ≡ pos (2 ^ k)
power_is k h = ap (to_z w128) (one_shl k 128 (omega arith)) ∙ to_z_pos w128 (2 ^ k) (pow_below k 127 (omega arith))

-- the mask of the k low bits
mask_is : (k : ℕ) → k ≤ 64 → of_z w128 (to_z w128 (1 * 2 ^ k % 2 ^ 128) -ℤ pos 1) ≡ 2 ^ k - 1
mask_is k h =
    let less : pos (2 ^ k) -ℤ pos 1 ≡ pos (2 ^ k - 1) = omega (arith, ints, pow_pos k) in
    ap (λ z. of_z w128 (z -ℤ pos 1)) (power_is k h) ∙ ap (of_z w128) less

-- the low k bits of a number, by a mask
masked_number : (k : ℕ) (n : ℤ) → k ≤ 64 → FitsSigned w128 n → unsigned_abs (to_z w128 (bit_and (of_z w128 n) (2 ^ k - 1))) ≡ residue (2 ^ k) n
masked_number k n h f =
    let x = of_z w128 n in
    let small : bit_and x (2 ^ k - 1) < 2 ^ 127 = omega (arith, and_le_r x (2 ^ k - 1), pow_below k 127 (omega arith), pow_pos k) in
    ap unsigned_abs (to_z_pos w128 (bit_and x (2 ^ k - 1)) small) ∙ masked k (128 - k) n (omega arith) f

-- the low k bits of a number, as the code masks them
pub low_bits_is : (k : ℕ) (n : ℤ) → k ≤ 64 → FitsSigned w128 n → unsigned_abs (to_z w128 (bit_and (of_z w128 n) (of_z w128 (to_z w128 (1 * 2 ^ k % 2 ^ 128) -ℤ pos 1)))) ≡ residue (2 ^ k) n
low_bits_is k n h f = ap (λ y. unsigned_abs (to_z w128 (bit_and (of_z w128 n) y))) (mask_is k h) ∙ masked_number k n h f

-- the places of a shift, as the code masks them
pub places_is : (t : IntType) (n : ℤ) → FitsSigned w128 n → unsigned_abs (to_z w128 (bit_and (of_z w128 n) (of_z w128 (to_z w128 (width t) -ℤ pos 1)))) ≡ places t n
places_is Char n f = masked_number 3 n (lit≤ tt) f
places_is SChar n f = masked_number 3 n (lit≤ tt) f
places_is UChar n f = masked_number 3 n (lit≤ tt) f
places_is Short n f = masked_number 4 n (lit≤ tt) f
places_is UShort n f = masked_number 4 n (lit≤ tt) f
places_is Int n f = masked_number 5 n (lit≤ tt) f
places_is UInt n f = masked_number 5 n (lit≤ tt) f
places_is Long n f = masked_number 6 n (lit≤ tt) f
places_is ULong n f = masked_number 6 n (lit≤ tt) f
places_is LLong n f = masked_number 6 n (lit≤ tt) f
places_is ULLong n f = masked_number 6 n (lit≤ tt) f

-- the number of bits whose highest is set, as the code computes it
pub high_number : (k low : ℕ) → k ≤ 64 → low < 2 ^ 64 → lt_z (to_z w128 low) (to_z w128 (1 * 2 ^ (k - 1) % 2 ^ 128)) ≡ false → to_z w128 (of_z w128 (to_z w128 low -ℤ to_z w128 (1 * 2 ^ k % 2 ^ 128))) ≡ twos_complement k low
high_number k low h small e =
    let low_is : to_z w128 low ≡ pos low = to_z_pos w128 low (omega arith) in
    let half_is = power_is (k - 1) (omega arith) in
    let test : nat_lt low (2 ^ (k - 1)) ≡ false = sym (λ i. lt_z (low_is i) (half_is i)) ∙ e in
    let bound = pow_below k 127 (omega arith) in
    let fits : FitsSigned w128 (pos low -ℤ pos (2 ^ k)) = omega (arith, ints, bound) in
    (λ i. to_z w128 (of_z w128 (low_is i -ℤ power_is k h i)))
    ∙ to_z-of_z w128 (pos low -ℤ pos (2 ^ k)) fits
    ∙ sym (ap (λ b. if b then pos low else pos low -ℤ pos (2 ^ k)) test)
