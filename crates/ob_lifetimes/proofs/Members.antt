-- Members of lists, of filtered ones and of mapped ones.
use Rattle.std.proofs.Common.{◌≡◌, ℕ, zero, suc, ◌<◌, ◌⊎◌, Bool, true, false, cond, List, [], ◌∷◌, length, get_or, map, arith, refl, sym, ap, ◌∙◌, subst, inl, inr, ⊎_elim}
use Rattle.std.specs.List.{All, Contains, filter}
use Rattle.std.proofs.lemmas.Bool.{cases_Bool, cond-true, cond-false, cond_both}
use Rattle.std.proofs.lemmas.List.Elements.{All-head, All-tail, All-weaker, All-contains_itself}

module _ {X : Type 0} where
  pub here : (x : X) (xs : List X) → Contains (x ∷ xs) x
  here x xs = (0, omega arith, refl)

  pub there : (x y : X) (xs : List X) → Contains xs y → Contains (x ∷ xs) y
  there x y xs h = (suc h.0, (let below : h.0 < length xs = h.1 in omega arith), h.2)

  first_or_later : (x y : X) (xs : List X) (k : ℕ) → k < length (x ∷ xs) → get_or (x ∷ xs) k y ≡ y → (x ≡ y) ⊎ Contains xs y
  first_or_later x y xs zero below is = inl is
  first_or_later x y xs (suc k) below is = inr (k, omega arith, is)

  pub Contains_cases : (x y : X) (xs : List X) → Contains (x ∷ xs) y → (x ≡ y) ⊎ Contains xs y
  Contains_cases x y xs h = first_or_later x y xs h.0 h.1 h.2

  pub Contains-nil : (y : X) → Contains [] y → {A : Type 0} → A
  Contains-nil y h = absurd (let below : h.0 < 0 = h.1 in omega arith)

  -- what holds of each member holds of all
  pub All-from_members : (P : X → Type 0) (xs : List X) → ((x : X) → Contains xs x → P x) → All P xs
  All-from_members P xs each = All-weaker (Contains xs) P each xs (All-contains_itself xs)

  pub Contains-filter : (p : X → Bool) (y : X) (xs : List X) → p y ≡ true → Contains xs y → Contains (filter p xs) y
  Contains-filter p y [] met h = Contains-nil y h
  Contains-filter p y (x ∷ xs) met h =
      let R : List X → Type 0 = λ l. Contains l y in
      ⊎_elim
      (λ is.
      let first : Contains (x ∷ filter p xs) y = subst (λ (z : X). Contains (z ∷ filter p xs) y) (sym is) (here y (filter p xs)) in
      subst R (sym (cond-true (p x) (x ∷ filter p xs) (filter p xs) (ap p is ∙ met))) first)
      (λ rest.
      let kept : Contains (filter p xs) y = Contains-filter p y xs met rest in
      cond_both (p x) (x ∷ filter p xs) (filter p xs) R (λ _. there x y (filter p xs) kept) (λ _. kept))
      (Contains_cases x y xs h)

  -- tests that agree on what is there keep the same
  pub filter_agrees : (p q : X → Bool) (xs : List X) → All (λ x. p x ≡ q x) xs → filter p xs ≡ filter q xs
  filter_agrees p q [] each = refl
  filter_agrees p q (x ∷ xs) each =
      ap (λ b. cond b (x ∷ filter p xs) (filter p xs)) (All-head (λ x. p x ≡ q x) x xs each)
      ∙ ap (λ (l : List X). cond (q x) (x ∷ l) l) (filter_agrees p q xs (All-tail (λ x. p x ≡ q x) x xs each))

  -- two filters, one after the other
  pub filter-filter : (p q r : X → Bool) (xs : List X) → ((x : X) → cond (p x) (q x) false ≡ r x) → filter q (filter p xs) ≡ filter r xs
  filter-filter p q r [] both = refl
  filter-filter p q r (x ∷ xs) both =
      let rest : filter q (filter p xs) ≡ filter r xs = filter-filter p q r xs both in
      ⊎_elim
      (λ met.
      ap (filter q) (cond-true (p x) (x ∷ filter p xs) (filter p xs) met)
      ∙ ap (λ (l : List X). cond (q x) (x ∷ l) l) rest
      ∙ ap (λ b. cond b (x ∷ filter r xs) (filter r xs)) (sym (cond-true (p x) (q x) false met) ∙ both x))
      (λ unmet.
      ap (filter q) (cond-false (p x) (x ∷ filter p xs) (filter p xs) unmet)
      ∙ rest
      ∙ sym (cond-false (r x) (x ∷ filter r xs) (filter r xs) (sym (both x) ∙ cond-false (p x) (q x) false unmet)))
      (cases_Bool (p x))

module _ {X Y : Type 0} where
  pub Contains-map : (f : X → Y) (y : X) (xs : List X) → Contains xs y → Contains (map f xs) (f y)
  Contains-map f y [] h = Contains-nil y h
  Contains-map f y (x ∷ xs) h =
      ⊎_elim
      (λ is. subst (λ (z : Y). Contains (z ∷ map f xs) (f y)) (sym (ap f is)) (here (f y) (map f xs)))
      (λ rest. there (f x) (f y) (map f xs) (Contains-map f y xs rest))
      (Contains_cases x y xs h)

  -- a member of what is mapped comes from one
  pub from_map : (f : X → Y) (z : Y) (xs : List X) → Contains (map f xs) z → (x : X) × Contains xs x × (f x ≡ z)
  from_map f z [] h = Contains-nil z h
  from_map f z (x ∷ xs) h =
      ⊎_elim
      (λ is. (x, here x xs, is))
      (λ rest. let one = from_map f z xs rest in (one.0, there x one.0 xs one.1, one.2))
      (Contains_cases (f x) z (map f xs) h)
