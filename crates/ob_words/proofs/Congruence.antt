-- Congruence of whole numbers, and the least natural number that is congruent to a number.
use Rattle.std.proofs.Common.{◌≡◌, ℕ, suc, ◌+◌, ◌-◌, ◌*◌, ◌/◌, ◌%◌, ◌<◌, refl, ap, subst, ◌∙◌, arith, mod-lt}
use Rattle.std.specs.Prelude.{ℤ, pos, negsuc, ◌+ℤ◌, ◌-ℤ◌, ◌*ℤ◌, neg_ℤ, unsigned_abs}
use Rattle.std.proofs.lemmas.Int.{ints, int_rem_euclid_is}
use Rattle.std.proofs.lemmas.Nat.{mod-mul-add, div-add-mod'}
use borrow.Author.Differences.{up, down, same_in, same_out, sum_is_lem, neg_is, product_is}
use Rattle.ob_words.specs.Conversion.{IsCongruent, residue}

-- the factor of a congruence, from the two that stand for it in ℕ
pub congruent : (m : ℕ) (a b : ℤ) (j k : ℕ) → up a + down b + j * m ≡ down a + up b + k * m → IsCongruent m a b
congruent m a b j k e =
    let d = pos k -ℤ pos j in
    let factor : up d + j ≡ down d + k = omega (arith, ints) in
    let times : (up d + j) * m ≡ (down d + k) * m = ap (λ x. x * m) factor in
    (d, same_in a (b +ℤ d *ℤ pos m) (omega (arith, sum_is_lem, product_is)))

-- the two factors that stand for a congruence in ℕ
pub factors : (m : ℕ) (a b : ℤ) → IsCongruent m a b → (j : ℕ) × (k : ℕ) × (up a + down b + j * m ≡ down a + up b + k * m)
factors m a b (k, e) = (down k, up k, omega (arith, sum_is_lem, product_is, same_out a (b +ℤ k *ℤ pos m) e))

pub congruent_refl : (m : ℕ) (a : ℤ) → IsCongruent m a a
congruent_refl m a = congruent m a a 0 0 (omega arith)

pub congruent_sym : (m : ℕ) (a b : ℤ) → IsCongruent m a b → IsCongruent m b a
congruent_sym m a b h = let f = factors m a b h in congruent m b a f.1 f.0 (omega (arith, f.2))

pub congruent_trans : (m : ℕ) (a b c : ℤ) → IsCongruent m a b → IsCongruent m b c → IsCongruent m a c
congruent_trans m a b c h i =
    let f = factors m a b h in
    let g = factors m b c i in
    congruent m a c (f.0 + g.0) (f.1 + g.1) (omega (arith, f.2, g.2))

pub congruent_neg : (m : ℕ) (a b : ℤ) → IsCongruent m a b → IsCongruent m (neg_ℤ a) (neg_ℤ b)
congruent_neg m a b h = let f = factors m a b h in congruent m (neg_ℤ a) (neg_ℤ b) f.1 f.0 (omega (arith, f.2, neg_is))

pub congruent_sum : (m : ℕ) (a b c d : ℤ) → IsCongruent m a b → IsCongruent m c d → IsCongruent m (a +ℤ c) (b +ℤ d)
congruent_sum m a b c d h i =
    let f = factors m a b h in
    let g = factors m c d i in
    congruent m (a +ℤ c) (b +ℤ d) (f.0 + g.0) (f.1 + g.1) (omega (arith, f.2, g.2, sum_is_lem))

pub congruent_difference : (m : ℕ) (a b c d : ℤ) → IsCongruent m a b → IsCongruent m c d → IsCongruent m (a -ℤ c) (b -ℤ d)
congruent_difference m a b c d h i = congruent_sum m a b (neg_ℤ c) (neg_ℤ d) h (congruent_neg m c d i)

-- one factor is kept
congruent_times : (m : ℕ) (a b c : ℤ) → IsCongruent m a b → IsCongruent m (a *ℤ c) (b *ℤ c)
congruent_times m a b c h =
    let f = factors m a b h in
    let above = ap (λ x. x * up c) f.2 in
    let below = ap (λ x. x * down c) f.2 in
    congruent m (a *ℤ c) (b *ℤ c) (f.0 * up c + f.1 * down c) (f.1 * up c + f.0 * down c) (omega (arith, above, below, product_is))

times_comm : (a b : ℤ) → a *ℤ b ≡ b *ℤ a
times_comm a b = same_in (a *ℤ b) (b *ℤ a) (omega (arith, product_is))

pub congruent_product : (m : ℕ) (a b c d : ℤ) → IsCongruent m a b → IsCongruent m c d → IsCongruent m (a *ℤ c) (b *ℤ d)
congruent_product m a b c d h i =
    let second : IsCongruent m (b *ℤ c) (b *ℤ d) =
    subst (λ z. IsCongruent m z (b *ℤ d)) (times_comm c b) (subst (λ z. IsCongruent m (c *ℤ b) z) (times_comm d b) (congruent_times m c d b i)) in
    congruent_trans m (a *ℤ c) (b *ℤ c) (b *ℤ d) (congruent_times m a b c h) second

-- what is congruent modulo a multiple is congruent
pub congruent_coarser : (m n q : ℕ) (a b : ℤ) → n ≡ q * m → IsCongruent n a b → IsCongruent m a b
congruent_coarser m n q a b e h =
    let f = factors n a b h in
    let lower = ap (λ x. f.0 * x) e in
    let upper = ap (λ x. f.1 * x) e in
    congruent m a b (f.0 * q) (f.1 * q) (omega (arith, f.2, lower, upper))

-- a number modulo m, where it is r plus a multiple
pub residue_is : (m : ℕ) (z : ℤ) (r : ℕ) → r < m → IsCongruent m z (pos r) → residue m z ≡ r
unfolding residue
residue_is m z r h c =
    let f = factors m z (pos r) c in
    let some : 0 < m = omega arith in
    ap unsigned_abs (int_rem_euclid_is z (pos m) m f.0 (f.1 * m + r) some refl (same_in (z +ℤ pos (f.0 * m)) (pos (f.1 * m + r)) (omega (arith, f.2, sum_is_lem))))
    ∙ mod-mul-add f.1 m r h

pub residue_below : (m : ℕ) (z : ℤ) → 0 < m → residue m z < m
unfolding residue
residue_below m (pos a) h = mod-lt a h
residue_below m (negsuc a) h = omega (arith, mod-lt a h)

pub residue_congruent : (m : ℕ) (z : ℤ) → 0 < m → IsCongruent m (pos (residue m z)) z
unfolding residue
residue_congruent m (pos a) h = congruent m (pos (a % m)) (pos a) (a / m) 0 (omega (arith, div-add-mod' a m))
residue_congruent m (negsuc a) h = congruent m (pos (m - 1 - a % m)) (negsuc a) 0 (suc (a / m)) (omega (arith, div-add-mod' a m, mod-lt a h))

-- congruent numbers have one residue
pub residue_same : (m : ℕ) (a b : ℤ) → 0 < m → IsCongruent m a b → residue m a ≡ residue m b
residue_same m a b h c =
    residue_is m a (residue m b) (residue_below m b h) (congruent_trans m a b (pos (residue m b)) c (congruent_sym m (pos (residue m b)) b (residue_congruent m b h)))
