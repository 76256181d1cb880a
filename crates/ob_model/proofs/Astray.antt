-- Which accesses are astray, and the places of granules.
use Rattle.std.proofs.Common.{◌≡◌, ◌↔◌, ℕ, ◌+◌, ◌/◌, ◌%◌, ◌<◌, ◌≤◌, ◌==◌, ◌&&◌, ◌||◌, Bool, true, false, not, ℤ, pos, negsuc, ◌+ℤ◌, ◌*ℤ◌, ◌≤ℤ◌, ◌<ℤ◌, unsigned_abs, arith, refl, div-add-mod'}
use Rattle.std.proofs.lemmas.Bool.Decides.{nat_tests}
use Rattle.std.proofs.lemmas.Int.{ints}
use borrow.Author.Differences.{same_in, sum_is_lem, product_is}
use Rattle.ob_model.proofs.Conjunctions.{and_true}
use Rattle.ob_model.specs.Accesses.{IsInside, is_inside, is_aligned, is_stray, granule, place_in_granule, own_granules, is_own, Reach, inside, vanishing, reach, reach_if, stray_reach}

pub eight_places : (offset : ℤ) → (offset ≡ granule offset *ℤ pos 8 +ℤ pos (place_in_granule offset)) × (place_in_granule offset < 8)
eight_places (pos n) =
    (same_in (pos n) (granule (pos n) *ℤ pos 8 +ℤ pos (place_in_granule (pos n))) (omega (arith, product_is, sum_is_lem, div-add-mod' n 8)), omega arith)
eight_places (negsuc n) =
    (same_in (negsuc n) (granule (negsuc n) *ℤ pos 8 +ℤ pos (place_in_granule (negsuc n))) (omega (arith, product_is, sum_is_lem, div-add-mod' n 8)), omega arith)

pub own_are_counted : (size : ℕ) (offset : ℤ) → (is_own size offset ≡ true) ↔ ((pos 0 ≤ℤ granule offset) × (granule offset <ℤ pos (own_granules size)))
own_are_counted size (pos n) = (
  λ h. let below : n / 8 < own_granules size = grind (arith, nat_tests) in (omega (arith, ints), omega (arith, ints, below)),
  λ h. let below : n / 8 < own_granules size = omega (arith, ints, h.1) in grind (arith, nat_tests),
)
own_are_counted size (negsuc n) = (λ h. absurd (cc), λ h. absurd (omega (arith, ints, h.0)))

inside_test : (size : ℕ) (offset : ℤ) (k : ℕ) → (is_inside size offset k ≡ true) ↔ IsInside size offset k
inside_test size (pos n) k = (
  λ h. let within : n + k ≤ size = grind (arith, nat_tests) in (omega (arith, ints), omega (arith, ints, within)),
  λ h. let within : n + k ≤ size = omega (arith, ints, h.1) in grind (arith, nat_tests),
)
inside_test size (negsuc n) k = (λ h. absurd (cc), λ h. absurd (omega (arith, ints, h.0)))

not_false : (b : Bool) → not b ≡ false → b ≡ true
not_false true h = refl
not_false false h = absurd (cc)

neither : (a b : Bool) → a ≡ true → b ≡ true → not (a && b) ≡ false
neither true true g h = refl
neither true false g h = absurd (cc)
neither false b g h = absurd (cc)

pub strays_are_others : (freed : Bool) (size : ℕ) (offset : ℤ) (k : ℕ) → (is_stray freed size offset k ≡ false) ↔ ((freed ≡ false) × (unsigned_abs offset % k ≡ 0) × IsInside size offset k)
strays_are_others true size offset k = (λ h. absurd (cc), λ h. absurd (let e : true ≡ false = h.0 in cc))
strays_are_others false size offset k = (
  λ h.
      let parts = and_true (is_aligned offset k) (is_inside size offset k) (not_false (is_aligned offset k && is_inside size offset k) h) in
      let aligned : (unsigned_abs offset % k == 0) ≡ true = parts.0 in
      (refl, grind (arith, nat_tests), (inside_test size offset k).0 parts.1),
  λ h.
      let aligned : (unsigned_abs offset % k == 0) ≡ true = grind (arith, nat_tests, h.1) in
      neither (is_aligned offset k) (is_inside size offset k) aligned ((inside_test size offset k).1 h.2),
)

reach_where : (astray : Bool) (r : Reach) → astray ≡ false → reach_if astray r ≡ inside
reach_where true r h = absurd (cc)
reach_where false r h = refl

pub others_inside : (keeps freed : Bool) (size : ℕ) (offset : ℤ) (k : ℕ) → is_stray freed size offset k ≡ false → reach keeps freed size offset k ≡ inside
others_inside keeps freed size offset k h =
    reach_where (is_stray freed size offset k) (stray_reach (keeps && (not freed && is_aligned offset k)) (is_own size offset)) h

astray_where : (astray : Bool) → astray ≡ true → reach_if astray vanishing ≡ vanishing
astray_where true h = refl
astray_where false h = absurd (cc)

pub strays_vanish : (freed : Bool) (size : ℕ) (offset : ℤ) (k : ℕ) → is_stray freed size offset k ≡ true → reach false freed size offset k ≡ vanishing
strays_vanish freed size offset k h = astray_where (is_stray freed size offset k) h

ill_where : (keeps freed aligned its_inside its_own : Bool) → aligned ≡ false → reach_if (freed || not (aligned && its_inside)) (stray_reach (keeps && (not freed && aligned)) its_own) ≡ vanishing
ill_where keeps freed true its_inside its_own h = absurd (cc)
ill_where true true false its_inside its_own h = refl
ill_where true false false its_inside its_own h = refl
ill_where false true false its_inside its_own h = refl
ill_where false false false its_inside its_own h = refl

pub ill_aligned_vanish : (keeps freed : Bool) (size : ℕ) (offset : ℤ) (k : ℕ) → is_aligned offset k ≡ false → reach keeps freed size offset k ≡ vanishing
ill_aligned_vanish keeps freed size offset k h = ill_where keeps freed (is_aligned offset k) (is_inside size offset k) (is_own size offset) h

pub freed_vanish : (keeps : Bool) (size : ℕ) (offset : ℤ) (k : ℕ) → reach keeps true size offset k ≡ vanishing
freed_vanish true size offset k = refl
freed_vanish false size offset k = refl
