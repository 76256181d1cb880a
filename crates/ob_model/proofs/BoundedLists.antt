-- A granule that a store does not name stays listed.
use Rattle.std.proofs.Common.{◌≡◌, ℕ, ◌==◌, Bool, true, false, not, cond, ℤ, List, [], ◌∷◌, take, Some, None, arith, refl, sym, ◌∙◌, ap, slice_get, inl, inr}
use Rattle.std.specs.List.{find}
use Rattle.std.specs.Option.{option_map}
use Rattle.std.specs.Ordering.{int_eq}
use Rattle.std.proofs.lemmas.List.{take_all}
use Rattle.std.proofs.lemmas.Option.{slice_get_cases}
use Rattle.std.proofs.lemmas.Bool.{cond-false}
use Rattle.std.proofs.lemmas.Bool.Decides.{nat_tests, Decides-int_eq}
use Rattle.ob_model.proofs.Conjunctions.{and_true}
use Rattle.ob_model.specs.Bounded.{Listed, is_of, without_granule, listed_cell, put_first, after_store, dropped}

take_whole : {A : Type 0} (n : ℕ) (xs : List A) → slice_get xs n ≡ None → take n xs ≡ xs
take_whole n xs h = take_all n xs (elim (slice_get_cases xs n).1 [ inl w ↦ absurd (cc (h, w.2)) | inr w ↦ w.0 ])

same_of : {C : Type 0} (object : ℕ) (granule : ℤ) (e : Listed C) → is_of object granule e ≡ true → (e.object ≡ object) × (e.granule ≡ granule)
same_of object granule e h =
    let both = and_true (e.object == object) (int_eq e.granule granule) h in
    let same : (e.object == object) ≡ true = both.0 in
    (grind (arith, nat_tests), (Decides-int_eq e.granule granule).0 both.1)

-- an entry is not of two granules
apart : {C : Type 0} (object other : ℕ) (granule place : ℤ) (e : Listed C) → (object ≡ other → granule ≡ place → ⊥) → is_of object granule e ≡ true → is_of other place e ≡ false
apart object other granule place e ne named = by_test (is_of other place e) refl
  where
    by_test : (b : Bool) → is_of other place e ≡ b → is_of other place e ≡ false
    by_test true h =
        let one = same_of object granule e named in
        let two = same_of other place e h in
        absurd (ne (sym one.0 ∙ two.0) (sym one.1 ∙ two.1))
    by_test false h = h

find-without : {C : Type 0} (object other : ℕ) (granule place : ℤ) (es : List (Listed C)) → (object ≡ other → granule ≡ place → ⊥) → find (is_of other place) (without_granule object granule es) ≡ find (is_of other place) es
find-without object other granule place [] ne = refl
find-without object other granule place (e ∷ es) ne = by_test (is_of object granule e) refl (find-without object other granule place es ne)
  where
    by_test : (b : Bool) → is_of object granule e ≡ b → find (is_of other place) (without_granule object granule es) ≡ find (is_of other place) es → find (is_of other place) (cond (not b) (e ∷ without_granule object granule es) (without_granule object granule es)) ≡ find (is_of other place) (e ∷ es)
    by_test true h ih = ih ∙ sym (cond-false (is_of other place e) (Some e) (find (is_of other place) es) (apart object other granule place e ne h))
    by_test false h ih = ap (cond (is_of other place e) (Some e)) ih

pub others_stay :
    (cap object other : ℕ) (granule place : ℤ) (cell : ℕ) (es : List (Listed ℕ)) →
    dropped cap object granule cell es ≡ None → (object ≡ other → granule ≡ place → ⊥) →
    listed_cell other place (after_store cap object granule cell es) ≡ listed_cell other place es
others_stay cap object other granule place cell es kept ne =
    let first : Listed ℕ = record { object = object; granule = granule; cell = cell } in
    let off : is_of other place first ≡ false = apart object other granule place first ne (grind (arith, nat_tests, Decides-int_eq)) in
    ap (λ l. option_map (λ (e : Listed ℕ). e.cell) (find (is_of other place) l)) (take_whole cap (put_first object granule cell es) kept)
    ∙ ap (option_map (λ (e : Listed ℕ). e.cell)) (cond-false (is_of other place first) (Some first) (find (is_of other place) (without_granule object granule es)) off ∙ find-without object other granule place es ne)
