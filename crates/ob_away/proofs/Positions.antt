-- `position` by index.
use Rattle.std.proofs.Common.{◌≡◌, ℕ, ◌<◌, Bool, true, false, not, List, length, get_or, arith, ltb, Some, None, ap, ⊎_elim, sym, ◌∙◌}
use Rattle.std.specs.List.{position, position_or_len}
use Rattle.std.proofs.lemmas.Bool.{not-true, not-false, both_ways, cases_order, cases_lt, lt-ltb, le-ltb, cond-true, cond-false}
use Rattle.std.proofs.lemmas.List.Sums.{prefix_len_passes, prefix_len_stops}

module _ {X : Type 0} (p : X → Bool) (xs : List X) (d : X) where
  -- the first index where p passes
  length_before : (i : ℕ) → i < length xs → p (get_or xs i d) ≡ true → ((k : ℕ) → k < i → p (get_or xs k d) ≡ false) → position_or_len p xs ≡ i
  length_before i within here before =
      ⊎_elim (λ same. same)
      (⊎_elim
      (λ less. absurd (both_ways (p (get_or xs (position_or_len p xs) d)) (before (position_or_len p xs) less) (not-false _ (prefix_len_stops (λ x. not (p x)) xs d (omega arith)))))
      (λ more. absurd (both_ways (p (get_or xs i d)) (not-true _ (prefix_len_passes (λ x. not (p x)) xs i d more)) here)))
      (cases_order (position_or_len p xs) i)

  pub position_is : (i : ℕ) → i < length xs → p (get_or xs i d) ≡ true → ((k : ℕ) → k < i → p (get_or xs k d) ≡ false) → position p xs ≡ Some i
  position_is i within here before =
      let same : position_or_len p xs ≡ i = length_before i within here before in
      let inside : ltb (position_or_len p xs) (length xs) ≡ true = lt-ltb (position_or_len p xs) (length xs) (omega arith) in
      cond-true (ltb (position_or_len p xs) (length xs)) (Some (position_or_len p xs)) None inside ∙ ap Some same

  -- p passes at no index
  pub position_none : ((k : ℕ) → k < length xs → p (get_or xs k d) ≡ false) → position p xs ≡ None
  position_none nowhere =
      ⊎_elim
      (λ inside. absurd (both_ways (p (get_or xs (position_or_len p xs) d)) (nowhere (position_or_len p xs) inside) (not-false _ (prefix_len_stops (λ x. not (p x)) xs d inside))))
      (λ outside. cond-false (ltb (position_or_len p xs) (length xs)) (Some (position_or_len p xs)) None (le-ltb (position_or_len p xs) (length xs) outside))
      (cases_lt (position_or_len p xs) (length xs))

  -- and what those say of a position that is known
  pub none_before : position p xs ≡ None → (k : ℕ) → k < length xs → p (get_or xs k d) ≡ false
  none_before none k within =
      ⊎_elim
      (λ inside. absurd (let e : Some (position_or_len p xs) ≡ None = sym (cond-true (ltb (position_or_len p xs) (length xs)) (Some (position_or_len p xs)) None (lt-ltb (position_or_len p xs) (length xs) inside)) ∙ none in cc))
      (λ outside. not-true _ (prefix_len_passes (λ x. not (p x)) xs k d (omega arith)))
      (cases_lt (position_or_len p xs) (length xs))
