-- Lists under a map, a filter and a search, by what holds of the elements that occur.
use Rattle.std.proofs.Common.{◌≡◌, ℕ, zero, suc, ◌+◌, ◌<◌, ◌⊎◌, Bool, true, cond, not, ltb, List, [], ◌∷◌, length, get_or, map, arith, Option, Some, None, ap, subst, ⊎_elim, inl, inr, sym, ◌∙◌, refl}
use Rattle.std.specs.List.{All, AllPairs, Contains, filter, find, position, position_or_len, count_by}
use Rattle.std.specs.Option.{option_map}
use Rattle.std.proofs.lemmas.Bool.{both_ways, cases_Bool, cases_order, cond-true, cond-false, false_from_ne_true}
use Rattle.std.proofs.lemmas.List.Sums.{sum_by-cons}
use Rattle.std.proofs.lemmas.List.{length-map, get_or-map, get_or_default}

-- ---- membership

module _ {X : Type 0} where
  pub here : (x : X) (xs : List X) → Contains (x ∷ xs) x
  here x xs = (0, omega arith, refl)

  pub later : (y : X) (xs : List X) (x : X) → Contains xs x → Contains (y ∷ xs) x
  later y xs x among = (suc among.0, (let h = among.1 in omega arith), among.2)

  place_cases : (y : X) (xs : List X) (x : X) (k : ℕ) → k < length (y ∷ xs) → get_or (y ∷ xs) k x ≡ x → (y ≡ x) ⊎ Contains xs x
  place_cases y xs x zero within is = inl is
  place_cases y xs x (suc k) within is = inr (k, omega arith, is)

  pub here_or_later : (y : X) (xs : List X) (x : X) → Contains (y ∷ xs) x → (y ≡ x) ⊎ Contains xs x
  here_or_later y xs x among = place_cases y xs x among.0 among.1 among.2

  pub nothing_in : (x : X) → Contains [] x → ⊥
  nothing_in x among = let h = among.1 in omega arith

  pub all_from : (P : X → Type 0) (xs : List X) → ((x : X) → Contains xs x → P x) → All P xs
  all_from P xs each k d within = each (get_or xs k d) (k, within, get_or_default xs k (get_or xs k d) d within)

  -- an element that stands at two places is one, or the pairs say how it stands to the other
  pub alike : (R : X → X → Type 0) (xs : List X) (x y : X) → AllPairs R xs → Contains xs x → Contains xs y → (x ≡ y) ⊎ (R x y ⊎ R y x)
  alike R xs x y pairs at_x at_y =
      let i = at_x.0 in
      let j = at_y.0 in
      let first : get_or xs i x ≡ x = at_x.2 in
      let second : get_or xs j x ≡ y = get_or_default xs j x y at_y.1 ∙ at_y.2 in
      ⊎_elim
      (λ same. inl (sym first ∙ ap (λ k. get_or xs k x) same ∙ second))
      (⊎_elim
      (λ less. inr (inl (subst (λ (a : X). R a y) first (subst (λ (b : X). R (get_or xs i x) b) second (pairs i j x less at_y.1)))))
      (λ more. inr (inr (subst (λ (a : X). R a x) second (subst (λ (b : X). R (get_or xs j x) b) first (pairs j i x more at_x.1))))))
      (cases_order i j)

  -- ---- filters

  module _ (p : X → Bool) where
    pub kept_among : (xs : List X) (x : X) → Contains (filter p xs) x → Contains xs x × (p x ≡ true)
    kept_among [] x among = absurd (nothing_in x among)
    kept_among (y ∷ ys) x among =
        ⊎_elim
        (λ yes. ⊎_elim
        (λ same. (subst (λ (z : X). Contains (y ∷ ys) z) same (here y ys), ap p (sym same) ∙ yes))
        (λ rest. let r = kept_among ys x rest in (later y ys x r.0, r.1))
        (here_or_later y (filter p ys) x (subst (λ (zs : List X). Contains zs x) (cond-true (p y) (y ∷ filter p ys) (filter p ys) yes) among)))
        (λ no. let r = kept_among ys x (subst (λ (zs : List X). Contains zs x) (cond-false (p y) (y ∷ filter p ys) (filter p ys) no) among) in (later y ys x r.0, r.1))
        (cases_Bool (p y))

    pub among_kept : (xs : List X) (x : X) → Contains xs x → p x ≡ true → Contains (filter p xs) x
    among_kept [] x among passes = among
    among_kept (y ∷ ys) x among passes =
        ⊎_elim
        (λ yes. subst (λ (zs : List X). Contains zs x) (sym (cond-true (p y) (y ∷ filter p ys) (filter p ys) yes))
        (⊎_elim
        (λ same. subst (λ (z : X). Contains (y ∷ filter p ys) z) same (here y (filter p ys)))
        (λ rest. later y (filter p ys) x (among_kept ys x rest passes))
        (here_or_later y ys x among)))
        (λ no. subst (λ (zs : List X). Contains zs x) (sym (cond-false (p y) (y ∷ filter p ys) (filter p ys) no))
        (⊎_elim
        (λ same. absurd (both_ways (p y) no (ap p same ∙ passes)))
        (λ rest. among_kept ys x rest passes)
        (here_or_later y ys x among)))
        (cases_Bool (p y))

  -- ---- searches

  module _ (p : X → Bool) where
    pub found_among : (xs : List X) (x : X) → find p xs ≡ Some x → Contains xs x × (p x ≡ true)
    found_among [] x is = absurd (cc)
    found_among (y ∷ ys) x is =
        ⊎_elim
        (λ yes. let same : Some y ≡ Some x = sym (cond-true (p y) (Some y) (find p ys) yes) ∙ is in
        let e : y ≡ x = cc in
        (subst (λ (z : X). Contains (y ∷ ys) z) e (here y ys), ap p (sym e) ∙ yes))
        (λ no. let r = found_among ys x (sym (cond-false (p y) (Some y) (find p ys) no) ∙ is) in (later y ys x r.0, r.1))
        (cases_Bool (p y))

    -- the only one that passes
    pub find_only : (xs : List X) (x : X) → Contains xs x → p x ≡ true → ((y : X) → Contains xs y → p y ≡ true → y ≡ x) → find p xs ≡ Some x
    find_only [] x among passes only = absurd (nothing_in x among)
    find_only (y ∷ ys) x among passes only =
        ⊎_elim
        (λ yes. cond-true (p y) (Some y) (find p ys) yes ∙ ap Some (only y (here y ys) yes))
        (λ no. cond-false (p y) (Some y) (find p ys) no ∙
        ⊎_elim
        (λ same. absurd (both_ways (p y) no (ap p same ∙ passes)))
        (λ rest. find_only ys x rest passes (λ z at. only z (later y ys z at)))
        (here_or_later y ys x among))
        (cases_Bool (p y))

    -- a filter that keeps each one that passes
    pub find_kept : (q : X → Bool) (xs : List X) → ((x : X) → p x ≡ true → q x ≡ true) → find p (filter q xs) ≡ find p xs
    find_kept q [] keeps = refl
    find_kept q (y ∷ ys) keeps =
        ⊎_elim
        (λ stays. ap (find p) (cond-true (q y) (y ∷ filter q ys) (filter q ys) stays)
        ∙ ap (λ (o : Option X). cond (p y) (Some y) o) (find_kept q ys keeps))
        (λ goes. ap (find p) (cond-false (q y) (y ∷ filter q ys) (filter q ys) goes) ∙ find_kept q ys keeps
        ∙ sym (cond-false (p y) (Some y) (find p ys) (false_from_ne_true (p y) (λ passes. both_ways (q y) goes (keeps y passes)))))
        (cases_Bool (q y))

-- ---- maps

module _ {X Y : Type 0} where
  pub map_agree : (f g : X → Y) (xs : List X) → ((x : X) → Contains xs x → f x ≡ g x) → map f xs ≡ map g xs
  map_agree f g [] same = refl
  map_agree f g (x ∷ xs) same =
      ap (λ (y : Y). y ∷ map f xs) (same x (here x xs))
      ∙ ap (λ (ys : List Y). g x ∷ ys) (map_agree f g xs (λ z at. same z (later x xs z at)))

  pub map_twice : {Z : Type 0} (f : Y → Z) (g : X → Y) (h : X → Z) (xs : List X) → ((x : X) → Contains xs x → f (g x) ≡ h x) → map f (map g xs) ≡ map h xs
  map_twice f g h [] same = refl
  map_twice {Z} f g h (x ∷ xs) same =
      ap (λ (z : Z). z ∷ map f (map g xs)) (same x (here x xs))
      ∙ ap (λ (zs : List Z). h x ∷ zs) (map_twice f g h xs (λ y at. same y (later x xs y at)))

  pub among_mapped : (f : X → Y) (xs : List X) (x : X) → Contains xs x → Contains (map f xs) (f x)
  among_mapped f [] x among = absurd (nothing_in x among)
  among_mapped f (y ∷ ys) x among =
      ⊎_elim
      (λ same. subst (λ (z : X). Contains (f y ∷ map f ys) (f z)) same (here (f y) (map f ys)))
      (λ rest. later (f y) (map f ys) (f x) (among_mapped f ys x rest))
      (here_or_later y ys x among)

  pub mapped_from : (f : X → Y) (xs : List X) (y : Y) → Contains (map f xs) y → (x : X) × Contains xs x × (f x ≡ y)
  mapped_from f [] y among = absurd (nothing_in y among)
  mapped_from f (x ∷ xs) y among =
      ⊎_elim
      (λ same. (x, here x xs, same))
      (λ rest. let r = mapped_from f xs y rest in (r.0, later x xs r.0 r.1, r.2))
      (here_or_later (f x) (map f xs) y among)

  pub all_pairs_mapped : (R : Y → Y → Type 0) (f : X → Y) (xs : List X) → AllPairs (λ x y. R (f x) (f y)) xs → AllPairs R (map f xs)
  all_pairs_mapped R f [] pairs i j d less within = absurd (omega arith)
  all_pairs_mapped R f (x ∷ xs) pairs i j d less within =
      let within_xs : j < length (x ∷ xs) = let e = length-map (x ∷ xs) f in omega arith in
      subst (λ (a : Y). R a (get_or (map f (x ∷ xs)) j d)) (sym (get_or-map f (x ∷ xs) i x d (omega arith)))
      (subst (λ (b : Y). R (f (get_or (x ∷ xs) i x)) b) (sym (get_or-map f (x ∷ xs) j x d within_xs))
      (pairs i j x less within_xs))

  -- elements that pass are those whose images pass
  module _ (f : X → Y) (p : Y → Bool) (q : X → Bool) where
    pub filter_mapped : (g : X → Y) (xs : List X) → ((x : X) → Contains xs x → (p (f x) ≡ q x) × (q x ≡ true → f x ≡ g x)) → filter p (map f xs) ≡ map g (filter q xs)
    filter_mapped g [] same = refl
    filter_mapped g (x ∷ xs) same =
        let this = same x (here x xs) in
        let rest = filter_mapped g xs (λ z at. same z (later x xs z at)) in
        ⊎_elim
        (λ yes. cond-true (p (f x)) (f x ∷ filter p (map f xs)) (filter p (map f xs)) (this.0 ∙ yes)
        ∙ ap (λ (y : Y). y ∷ filter p (map f xs)) (this.1 yes)
        ∙ ap (λ (ys : List Y). g x ∷ ys) rest
        ∙ sym (ap (map g) (cond-true (q x) (x ∷ filter q xs) (filter q xs) yes)))
        (λ no. cond-false (p (f x)) (f x ∷ filter p (map f xs)) (filter p (map f xs)) (this.0 ∙ no)
        ∙ rest
        ∙ sym (ap (map g) (cond-false (q x) (x ∷ filter q xs) (filter q xs) no)))
        (cases_Bool (q x))

    pub find_mapped : (xs : List X) → ((x : X) → Contains xs x → p (f x) ≡ q x) → find p (map f xs) ≡ option_map f (find q xs)
    find_mapped [] same = refl
    find_mapped (x ∷ xs) same =
        let this = same x (here x xs) in
        let rest = find_mapped xs (λ z at. same z (later x xs z at)) in
        ⊎_elim
        (λ yes. cond-true (p (f x)) (Some (f x)) (find p (map f xs)) (this ∙ yes)
        ∙ sym (ap (option_map f) (cond-true (q x) (Some x) (find q xs) yes)))
        (λ no. cond-false (p (f x)) (Some (f x)) (find p (map f xs)) (this ∙ no)
        ∙ rest
        ∙ sym (ap (option_map f) (cond-false (q x) (Some x) (find q xs) no)))
        (cases_Bool (q x))

    place_mapped : (xs : List X) → ((x : X) → Contains xs x → p (f x) ≡ q x) → position_or_len p (map f xs) ≡ position_or_len q xs
    place_mapped [] same = refl
    place_mapped (x ∷ xs) same =
        ap (λ (b : Bool). cond (not b) (1 + position_or_len p (map f xs)) 0) (same x (here x xs))
        ∙ ap (λ n. cond (not (q x)) (1 + n) 0) (place_mapped xs (λ z at. same z (later x xs z at)))

    pub position_mapped : (xs : List X) → ((x : X) → Contains xs x → p (f x) ≡ q x) → position p (map f xs) ≡ position q xs
    position_mapped xs same =
        ap (λ n. cond (ltb n (length (map f xs))) (Some n) None) (place_mapped xs same)
        ∙ ap (λ n. cond (ltb (position_or_len q xs) n) (Some (position_or_len q xs)) None) (length-map xs f)

    pub count_mapped : (xs : List X) → ((x : X) → Contains xs x → p (f x) ≡ q x) → count_by p (map f xs) ≡ count_by q xs
    count_mapped [] same = refl
    count_mapped (x ∷ xs) same =
        sum_by-cons (λ (y : Y). cond (p y) 1 0) (f x) (map f xs)
        ∙ ap (λ (b : Bool). cond b 1 0 + count_by p (map f xs)) (same x (here x xs))
        ∙ ap (λ n. cond (q x) 1 0 + n) (count_mapped xs (λ z at. same z (later x xs z at)))
        ∙ sym (sum_by-cons (λ (z : X). cond (q z) 1 0) x xs)
