-- Trying the multiples of 16 in order finds the first fit.
use Rattle.std.proofs.Common.{◌≡◌, ℕ, zero, suc, ◌+◌, ◌*◌, ◌/◌, ◌<◌, ◌≤◌, Bool, true, false, List, Option, Some, None, MatchOption, All, arith, refl, ◌∙◌, subst, nat_le}
use Rattle.std.specs.Bool.{Decides}
use Rattle.std.specs.List.{list_all}
use Rattle.std.proofs.lemmas.Bool.Decides.{nat_tests, Decides-and, Decides-or, Decides-by_and}
use Rattle.ob_model.specs.Heap.{Block, Apart, Fits, IsFirstFit, is_apart, fits, tried, first_from, heap_place}

-- what the first of k multiples of 16 from p on is
FirstOf : (ℕ → Bool) → ℕ → ℕ → Option ℕ → Type 0
FirstOf test k p r =
    MatchOption r
    ((j : ℕ) → j < k → test (p + 16 * j) ≡ false)
    (λ q. (j : ℕ) × (j < k) × (q ≡ p + 16 * j) × (test q ≡ true) × ((i : ℕ) → i < j → test (p + 16 * i) ≡ false))

not_before : (test : ℕ → Bool) (k p : ℕ) → test p ≡ false → ((j : ℕ) → j < k → test (p + 16 + 16 * j) ≡ false) → (j : ℕ) → j < suc k → test (p + 16 * j) ≡ false
not_before test k p e rest zero h = let s : p + 16 * 0 ≡ p = omega arith in rw s e
not_before test k p e rest (suc j) h = let s : p + 16 * suc j ≡ p + 16 + 16 * j = omega arith in rw s (rest j (omega arith))

later : (test : ℕ → Bool) (k p : ℕ) (r : Option ℕ) → test p ≡ false → FirstOf test k (p + 16) r → FirstOf test (suc k) p r
unfolding FirstOf
later test k p None e rest = not_before test k p e rest
later test k p (Some q) e rest =
    (suc rest.0, omega arith, rest.2 ∙ omega arith, rest.3, not_before test rest.0 p e rest.4)

tried_is : (test : ℕ → Bool) (k p : ℕ) (b : Bool) → test p ≡ b → FirstOf test k (p + 16) (first_from test k (p + 16)) → FirstOf test (suc k) p (tried b p (first_from test k))
unfolding FirstOf
tried_is test k p true e rest = (0, omega arith, omega arith, e, λ i h. absurd (omega arith))
tried_is test k p false e rest = later test k p (first_from test k (p + 16)) e rest

first_from_is : (test : ℕ → Bool) (k p : ℕ) → FirstOf test k p (first_from test k p)
unfolding FirstOf
first_from_is test zero p = λ j h. absurd (omega arith)
first_from_is test (suc k) p = tried_is test k p (test p) refl (first_from_is test k (p + 16))

Decides-nat_le : (a b : ℕ) → Decides (nat_le a b) (a ≤ b)
Decides-nat_le a b = (λ h. grind (arith, nat_tests), λ h. grind (arith, nat_tests))

-- the test of a place, without the one for its multiple
fits_decides : (blocks : List Block) (heap length place : ℕ) → Decides (fits blocks heap length place) ((place + length ≤ heap) × All (Apart place length) blocks)
fits_decides blocks heap length place =
    Decides-and _ _ (Decides-nat_le (place + length) heap)
    (Decides-by_and (is_apart place length) (Apart place length) (list_all (is_apart place length))
    (λ b. Decides-or _ _ (Decides-nat_le (place + length) b.place) (Decides-nat_le (b.place + b.length) place)) refl (λ _ _. refl) blocks)

Fits-test : (blocks : List Block) (heap length place : ℕ) → Fits blocks heap length place → fits blocks heap length place ≡ true
Fits-test blocks heap length place f = (fits_decides blocks heap length place).1 (f.within, f.apart)

-- a place that fits is not among those that do not
no_fit : (blocks : List Block) (heap length q k : ℕ) → ((j : ℕ) → j < k → fits blocks heap length (0 + 16 * j) ≡ false) → Fits blocks heap length q → q < 16 * k → ⊥
no_fit blocks heap length q k none f h =
    let is : 0 + 16 * (q / 16) ≡ q = omega (arith, f.aligned) in
    let no : fits blocks heap length q ≡ false = subst (λ p. fits blocks heap length p ≡ false) is (none (q / 16) (omega arith)) in
    let yes : fits blocks heap length q ≡ true = Fits-test blocks heap length q f in
    cc

by_result : (blocks : List Block) (heap length : ℕ) (r : Option ℕ) → FirstOf (fits blocks heap length) (heap / 16 + 1) 0 r → MatchOption r ((q : ℕ) → ¬ Fits blocks heap length q) (IsFirstFit blocks heap length)
unfolding FirstOf
by_result blocks heap length None none = λ q f. no_fit blocks heap length q (heap / 16 + 1) none f (omega (arith, f.within))
by_result blocks heap length (Some p) found =
    let ok = (fits_decides blocks heap length p).0 found.3 in
    record {
      fits = record { aligned = omega (arith, found.2); within = ok.0; apart = ok.1 };
      least = λ q f. grind (arith, no_fit blocks heap length q found.0 found.4 f, found.2);
    }

pub first_fit : (blocks : List Block) (heap length : ℕ) → MatchOption (heap_place blocks heap length) ((q : ℕ) → ¬ Fits blocks heap length q) (IsFirstFit blocks heap length)
first_fit blocks heap length = by_result blocks heap length _ (first_from_is (fits blocks heap length) (heap / 16 + 1) 0)
