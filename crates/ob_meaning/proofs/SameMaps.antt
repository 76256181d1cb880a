-- Two lists of granules that are one map stay so: by a store, by the use of one of them, and by a death.
use Rattle.std.proofs.Common.{◌≡◌, ℕ, suc, ◌⊎◌, inl, inr, Bool, true, false, not, cond, ℤ, List, [], ◌∷◌, length, Option, Some, None, refl, sym, ◌∙◌, ap}
use Rattle.ob_model.specs.Bounded.{Listed, is_of, without_granule, listed_cell, put_first, after_load, moved_to_front, surviving_cells}
use Rattle.ob_meaning.proofs.OutsideLists.{IsKey, IsUnique, at_key, cell_in, cell-without, cond_true, cond_false, is_of_key, key_is_of, keys, length-without, listed_is, other-without, other_is_not_of, unique-without}

pub record SameMap {C : Type 0} (es ks : List (Listed C)) : Type 0 where
  pub left : IsUnique es
  pub right : IsUnique ks
  pub same : (o : ℕ) (g : ℤ) → cell_in o g es ≡ cell_in o g ks

-- ---- a store

pub cell-put : {C : Type 0} (o : ℕ) (g : ℤ) (c : C) (es : List (Listed C)) → cell_in o g (put_first o g c es) ≡ Some c
cell-put {C} o g c es =
    let e : Listed C = record { object = o; granule = g; cell = c } in
    cond_true (is_of o g e) (Some c) (cell_in o g (without_granule o g es)) (key_is_of o g e (refl, refl))

pub other-put : {C : Type 0} (o : ℕ) (g : ℤ) (c : C) (p : ℕ) (h : ℤ) (es : List (Listed C)) → ¬ IsKey o g p h → cell_in p h (put_first o g c es) ≡ cell_in p h es
other-put {C} o g c p h es ne =
    let e : Listed C = record { object = o; granule = g; cell = c } in
    cond_false (is_of p h e) (Some c) (cell_in p h (without_granule o g es)) (other_is_not_of p h e ne) ∙ other-without o g p h es ne

unique-put : {C : Type 0} (o : ℕ) (g : ℤ) (c : C) (es : List (Listed C)) → IsUnique es → IsUnique (put_first o g c es)
unique-put o g c es u = (cell-without o g es, unique-without o g es u)

pub same-put : {C : Type 0} (o : ℕ) (g : ℤ) (c : C) (es ks : List (Listed C)) → SameMap es ks → SameMap (put_first o g c es) (put_first o g c ks)
same-put {C} o g c es ks s =
    record { left = unique-put o g c es s.left; right = unique-put o g c ks s.right; same = λ p h. by_key p h (keys o g p h) }
  where
    by_key : (p : ℕ) (h : ℤ) → IsKey o g p h ⊎ ¬ IsKey o g p h → cell_in p h (put_first o g c es) ≡ cell_in p h (put_first o g c ks)
    by_key p h (inl k) = at_key (λ a b. cell_in a b (put_first o g c es) ≡ cell_in a b (put_first o g c ks)) o g p h k (cell-put o g c es ∙ sym (cell-put o g c ks))
    by_key p h (inr ne) = other-put o g c p h es ne ∙ s.same p h ∙ sym (other-put o g c p h ks ne)

-- ---- a use, which moves a granule to the front of one list

moved_same : {C : Type 0} (o : ℕ) (g : ℤ) (c : C) (es ks : List (Listed C)) → SameMap es ks → cell_in o g ks ≡ Some c → SameMap es (put_first o g c ks)
moved_same o g c es ks s found =
    record { left = s.left; right = unique-put o g c ks s.right; same = λ p h. by_key p h (keys o g p h) }
  where
    by_key : (p : ℕ) (h : ℤ) → IsKey o g p h ⊎ ¬ IsKey o g p h → cell_in p h es ≡ cell_in p h (put_first o g c ks)
    by_key p h (inl k) = at_key (λ a b. cell_in a b es ≡ cell_in a b (put_first o g c ks)) o g p h k (s.same o g ∙ found ∙ sym (cell-put o g c ks))
    by_key p h (inr ne) = s.same p h ∙ sym (other-put o g c p h ks ne)

pub same-used : {C : Type 0} (o : ℕ) (g : ℤ) (es ks : List (Listed C)) → SameMap es ks → SameMap es (after_load o g ks)
same-used {C} o g es ks s = by_cell (listed_cell o g ks) (sym (listed_is o g ks))
  where
    by_cell : (c : Option C) → cell_in o g ks ≡ c → SameMap es (moved_to_front c o g ks)
    by_cell None found = s
    by_cell (Some c) found = moved_same o g c es ks s found

-- ---- a death

pub cell-surviving : {C : Type 0} (dies : ℕ → Bool) (o : ℕ) (g : ℤ) (es : List (Listed C)) → cell_in o g (surviving_cells dies es) ≡ cond (dies o) None (cell_in o g es)
cell-surviving {C} dies o g [] = by_test (dies o)
  where
    by_test : (b : Bool) → ◌≡◌ {A = Option C} None (cond b None None)
    by_test true = refl
    by_test false = refl
cell-surviving {C} dies o g (e ∷ es) = by_tests (dies e.object) (is_of o g e) refl refl (cell-surviving dies o g es)
  where
    by_tests : (a b : Bool) → dies e.object ≡ a → is_of o g e ≡ b → cell_in o g (surviving_cells dies es) ≡ cond (dies o) None (cell_in o g es) → cell_in o g (cond (not a) (e ∷ surviving_cells dies es) (surviving_cells dies es)) ≡ cond (dies o) None (cond b (Some e.cell) (cell_in o g es))
    by_tests true true d t ih =
        let gone : dies o ≡ true = rw (← (is_of_key o g e t).0) d in
        ih ∙ cond_true (dies o) None (cell_in o g es) gone ∙ sym (cond_true (dies o) None (Some e.cell) gone)
    by_tests true false d t ih = ih
    by_tests false true d t ih =
        let stays : dies o ≡ false = rw (← (is_of_key o g e t).0) d in
        cond_true (is_of o g e) (Some e.cell) (cell_in o g (surviving_cells dies es)) t ∙ sym (cond_false (dies o) None (Some e.cell) stays)
    by_tests false false d t ih = cond_false (is_of o g e) (Some e.cell) (cell_in o g (surviving_cells dies es)) t ∙ ih

unique-surviving : {C : Type 0} (dies : ℕ → Bool) (es : List (Listed C)) → IsUnique es → IsUnique (surviving_cells dies es)
unique-surviving dies [] u = tt
unique-surviving {C} dies (e ∷ es) u = by_test (dies e.object) refl (unique-surviving dies es u.1)
  where
    by_test : (b : Bool) → dies e.object ≡ b → IsUnique (surviving_cells dies es) → IsUnique (cond (not b) (e ∷ surviving_cells dies es) (surviving_cells dies es))
    by_test true d ih = ih
    by_test false d ih =
        (cell-surviving dies e.object e.granule es ∙ cond_false (dies e.object) None (cell_in e.object e.granule es) d ∙ u.0, ih)

pub same-surviving : {C : Type 0} (dies : ℕ → Bool) (es ks : List (Listed C)) → SameMap es ks → SameMap (surviving_cells dies es) (surviving_cells dies ks)
same-surviving dies es ks s =
    record {
      left = unique-surviving dies es s.left;
      right = unique-surviving dies ks s.right;
      same = λ o g. cell-surviving dies o g es ∙ ap (cond (dies o) None) (s.same o g) ∙ sym (cell-surviving dies o g ks);
    }

-- ---- lengths

-- the rest of a list without its first granule
tails_same : {C : Type 0} (e : Listed C) (es ks : List (Listed C)) → SameMap (e ∷ es) ks → SameMap es (without_granule e.object e.granule ks)
tails_same e es ks s =
    record { left = s.left.1; right = unique-without e.object e.granule ks s.right; same = λ p h. by_key p h (keys e.object e.granule p h) }
  where
    by_key : (p : ℕ) (h : ℤ) → IsKey e.object e.granule p h ⊎ ¬ IsKey e.object e.granule p h → cell_in p h es ≡ cell_in p h (without_granule e.object e.granule ks)
    by_key p h (inl k) = at_key (λ a b. cell_in a b es ≡ cell_in a b (without_granule e.object e.granule ks)) e.object e.granule p h k (s.left.0 ∙ sym (cell-without e.object e.granule ks))
    by_key p h (inr ne) =
        sym (cond_false (is_of p h e) (Some e.cell) (cell_in p h es) (other_is_not_of p h e ne))
        ∙ s.same p h ∙ sym (other-without e.object e.granule p h ks ne)

first_is : {C : Type 0} (e : Listed C) (es : List (Listed C)) → cell_in e.object e.granule (e ∷ es) ≡ Some e.cell
first_is e es =
    cond_true (is_of e.object e.granule e) (Some e.cell) (cell_in e.object e.granule es) (key_is_of e.object e.granule e (refl, refl))

pub same-length : {C : Type 0} (es ks : List (Listed C)) → SameMap es ks → length es ≡ length ks
same-length [] [] s = refl
same-length [] (k ∷ ks) s = let found = s.same k.object k.granule ∙ first_is k ks in absurd (cc)
same-length (e ∷ es) ks s =
    ap suc (same-length es (without_granule e.object e.granule ks) (tails_same e es ks s))
    ∙ length-without e.object e.granule e.cell ks s.right (sym (s.same e.object e.granule) ∙ first_is e es)
