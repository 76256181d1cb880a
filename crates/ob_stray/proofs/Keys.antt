-- The test of two granules for equality, and their order.
use Rattle.std.proofs.Common.{◌≡◌, ◌==◌, ◌&&◌, ℕ, ℤ, Bool, true, false, ap, ◌∙◌, sym, refl, arith, nat_cmp, int_cmp, int_eq, is_eq, is_gt, Less, Equal, Greater, Ordering, FitsSigned, w64, to_z, true≢false}
use Rattle.std.specs.Cmp.{IsEquivalence, signed_Decides, nat_eq_equiv, both_tied}
use Rattle.std.specs.Ordering.{ordering_then}
use Rattle.std.proofs.lemmas.Bool.{and_parts, and_from, eq-eqb, eqb-true}
use Rattle.std.proofs.lemmas.Bool.Decides.{nat_tests}
use Rattle.std.proofs.lemmas.Cmp.{int_eq_equiv, on_equiv, and_equiv, nat_cmp_total, tied_itself, ranked, int_ranked}
use Rattle.std.proofs.lemmas.Int.{ints}
use Rattle.ob_model.specs.Descriptors.{Pair, same_pair}
use Rattle.ob_stray.specs.Kept.{pair_cmp}

pub same-true : (p q : Pair) → same_pair p q ≡ true → p ≡ q
same-true p q same =
    let parts = and_parts (p.0 == q.0) (int_eq p.1 q.1) same in
    let object : p.0 ≡ q.0 = eqb-true p.0 q.0 parts.0 in
    let granule : p.1 ≡ q.1 = (signed_Decides p.1 q.1).0 parts.1 in
    let of : ℕ → Pair = λ n. (n, p.1) in
    let at : ℤ → Pair = λ z. (q.0, z) in
    ap of object ∙ ap at granule

pub same-refl : (p : Pair) → same_pair p p ≡ true
same-refl p = and_from (p.0 == p.0) (int_eq p.1 p.1) (eq-eqb p.0 p.0 refl) ((signed_Decides p.1 p.1).1 refl)

pub same-flips : (p q : Pair) → same_pair p q ≡ same_pair q p
same-flips p q =
    let first : Bool → Bool = λ b. b && int_eq p.1 q.1 in
    let second : Bool → Bool = λ b. (q.0 == p.0) && b in
    ap first (nat_eq_equiv.symm p.0 q.0) ∙ ap second (int_eq_equiv.symm p.1 q.1)

pub same-laws : IsEquivalence same_pair
same-laws = and_equiv (on_equiv (λ (p : Pair). p.0) nat_eq_equiv) (on_equiv (λ (p : Pair). p.1) int_eq_equiv)

-- ---- the order

nat_tied : (x y : ℕ) → (x == y) ≡ is_eq (nat_cmp x y)
nat_tied x y = grind (arith, nat_tests)

-- granules that compare as equal are the same
pub at-same : (p q : Pair) → is_eq (pair_cmp p q) ≡ same_pair p q
at-same p q = sym (both_tied (p.0 == q.0) (int_eq p.1 q.1) (nat_cmp p.0 q.0) (int_cmp p.1 q.1) (nat_tied p.0 q.0) refl)

-- the search begins before each granule of its object
pub from-least : (object : ℕ) (z : ℤ) → FitsSigned w64 z → is_gt (pair_cmp (object, to_z w64 9223372036854775808) (object, z)) ≡ false
from-least object z fits =
    let here : nat_cmp object object ≡ Equal = tied_itself nat_cmp_total object in
    rw here (by_order (int_cmp (to_z w64 9223372036854775808) z) refl)
  where
    by_order : (r : Ordering) → r ≡ int_cmp (to_z w64 9223372036854775808) z → is_gt r ≡ false
    by_order Less h = refl
    by_order Equal h = refl
    by_order Greater h = let under = int_ranked (to_z w64 9223372036854775808) z Greater h in absurd (omega (arith, ints))

-- what lies between two granules of an object is of that object
pub between-own : (object : ℕ) (f : Pair) (y z : ℤ) → is_gt (pair_cmp (object, y) f) ≡ false → is_gt (pair_cmp f (object, z)) ≡ false → f.0 ≡ object
between-own object f y z h g = by_order (nat_cmp object f.0) (nat_cmp f.0 object) refl refl h g
  where
    by_order : (a b : Ordering) → a ≡ nat_cmp object f.0 → b ≡ nat_cmp f.0 object → is_gt (ordering_then a (int_cmp y f.1)) ≡ false → is_gt (ordering_then b (int_cmp f.1 z)) ≡ false → f.0 ≡ object
    by_order Less Less p q h g = let up = ranked object f.0 Less p in let down = ranked f.0 object Less q in absurd (omega arith)
    by_order Less Equal p q h g = ranked f.0 object Equal q
    by_order Less Greater p q h g = absurd (true≢false g)
    by_order Equal b p q h g = sym (ranked object f.0 Equal p)
    by_order Greater b p q h g = absurd (true≢false h)
