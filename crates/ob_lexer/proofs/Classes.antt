-- The classes of bytes, one against the other.
use Rattle.std.proofs.Common.{◌≡◌, ℕ, ◌≤◌, ◌<◌, ◌⊎◌, inl, inr, true, false, ◌||◌, leb, eqb, arith}
use Rattle.std.proofs.lemmas.Bool.{leb-true, eqb-true, ne_eqb, lt-leb, and_parts, or_cases, or_from, and_left, and_right}
use Rattle.ob_tree.specs.Bytes.{is_within, is_letter, is_digit, is_white}

pub within-bounds : (low high c : ℕ) → is_within low high c ≡ true → (low ≤ c) × (c ≤ high)
within-bounds low high c e = let p = and_parts (leb low c) (leb c high) e in (leb-true low c p.0, leb-true c high p.1)

pub within-not : (low high c : ℕ) → (c < low) ⊎ (high < c) → is_within low high c ≡ false
within-not low high c (inl h) = and_left (leb low c) (leb c high) (lt-leb low c h)
within-not low high c (inr h) = and_right (leb low c) (leb c high) (lt-leb c high h)

pub letter-bounds : (c : ℕ) → is_letter c ≡ true → 65 ≤ c
unfolding is_letter
letter-bounds c e =
    elim (or_cases (is_within 97 122 c) (is_within 65 90 c || eqb c 95) e) [
      | inl h ↦ (let b = within-bounds 97 122 c h in omega (arith, b))
      | inr h ↦ elim (or_cases (is_within 65 90 c) (eqb c 95) h) [
        | inl g ↦ (let b = within-bounds 65 90 c g in omega (arith, b))
        | inr g ↦ (let b = eqb-true c 95 g in omega (arith, b))
      ]
    ]

pub digit-bounds : (c : ℕ) → is_digit c ≡ true → (48 ≤ c) × (c ≤ 57)
unfolding is_digit
digit-bounds c e = within-bounds 48 57 c e

pub white-not : (c : ℕ) → 33 ≤ c → is_white c ≡ false
unfolding is_white
white-not c h = or_from (is_within 9 13 c) (eqb c 32) (within-not 9 13 c (inr (omega arith))) (ne_eqb c 32 (λ e. omega (arith, e)))

pub letter-not-white : (c : ℕ) → is_letter c ≡ true → is_white c ≡ false
letter-not-white c e = white-not c (let b = letter-bounds c e in omega (arith, b))

pub digit-not-white : (c : ℕ) → is_digit c ≡ true → is_white c ≡ false
digit-not-white c e = white-not c (let b = digit-bounds c e in omega (arith, b))

pub digit-not-letter : (c : ℕ) → is_digit c ≡ true → is_letter c ≡ false
unfolding is_letter
digit-not-letter c e =
    let b = digit-bounds c e in
    or_from (is_within 97 122 c) (is_within 65 90 c || eqb c 95) (within-not 97 122 c (inl (omega (arith, b))))
    (or_from (is_within 65 90 c) (eqb c 95) (within-not 65 90 c (inl (omega (arith, b)))) (ne_eqb c 95 (λ e. omega (arith, e, b))))
