-- Lists of granules outside of objects as finite maps: each lists a granule once at most, and two of them are the same map
-- where they list the same cells, in whatever order.
use Rattle.std.proofs.Common.{◌≡◌, ℕ, suc, ◌==◌, ◌&&◌, ◌⊎◌, inl, inr, Bool, true, false, not, cond, ℤ, List, [], ◌∷◌, length, Option, Some, None, refl, sym, subst, ◌∙◌, ap}
use Rattle.std.specs.List.{find}
use Rattle.std.specs.Option.{option_map}
use Rattle.std.specs.Ordering.{int_eq}
use Rattle.std.proofs.lemmas.Bool.Decides.{Decides-int_eq, Decides-eqb}
use Rattle.ob_model.specs.Bounded.{Listed, is_of, without_granule, listed_cell}

-- ---- tests

pub cond_true : {A : Type 0} (b : Bool) (x y : A) → b ≡ true → cond b x y ≡ x
cond_true true x y h = refl
cond_true false x y h = absurd (cc)

pub cond_false : {A : Type 0} (b : Bool) (x y : A) → b ≡ false → cond b x y ≡ y
cond_false true x y h = absurd (cc)
cond_false false x y h = refl

and_true : (a b : Bool) → (a && b) ≡ true → (a ≡ true) × (b ≡ true)
and_true true b h = (refl, h)
and_true false b h = absurd (cc)

and_both : (a b : Bool) → a ≡ true → b ≡ true → (a && b) ≡ true
and_both true b h k = k
and_both false b h k = absurd (cc)

-- two granules of objects are the same, or they are not
abbrev pub IsKey : ℕ → ℤ → ℕ → ℤ → Type 0
IsKey o g p h = (o ≡ p) × (g ≡ h)

pub at_key : (P : ℕ → ℤ → Type 0) (o : ℕ) (g : ℤ) (p : ℕ) (h : ℤ) → IsKey o g p h → P o g → P p h
at_key P o g p h k x = subst (λ b. P p b) k.1 (subst (λ a. P a g) k.0 x)

pub is_of_key : {C : Type 0} (o : ℕ) (g : ℤ) (e : Listed C) → is_of o g e ≡ true → IsKey e.object e.granule o g
is_of_key o g e t =
    let both = and_true (e.object == o) (int_eq e.granule g) t in
    ((Decides-eqb e.object o).0 both.0, (Decides-int_eq e.granule g).0 both.1)

pub key_is_of : {C : Type 0} (o : ℕ) (g : ℤ) (e : Listed C) → IsKey e.object e.granule o g → is_of o g e ≡ true
key_is_of o g e k =
    and_both (e.object == o) (int_eq e.granule g) ((Decides-eqb e.object o).1 k.0) ((Decides-int_eq e.granule g).1 k.1)

not_true : (b : Bool) → ¬ (b ≡ true) → b ≡ false
not_true true h = absurd (h refl)
not_true false h = refl

pub other_is_not_of : {C : Type 0} (o : ℕ) (g : ℤ) (e : Listed C) → ¬ IsKey e.object e.granule o g → is_of o g e ≡ false
other_is_not_of o g e ne = not_true (is_of o g e) (λ t. ne (is_of_key o g e t))

pub keys : (o : ℕ) (g : ℤ) (p : ℕ) (h : ℤ) → IsKey o g p h ⊎ ¬ IsKey o g p h
keys o g p h = by_tests (o == p) (int_eq g h) refl refl
  where
    by_tests : (a b : Bool) → (o == p) ≡ a → int_eq g h ≡ b → IsKey o g p h ⊎ ¬ IsKey o g p h
    by_tests true true s t = inl ((Decides-eqb o p).0 s, (Decides-int_eq g h).0 t)
    by_tests true false s t = inr (λ k. let is : int_eq g h ≡ true = (Decides-int_eq g h).1 k.1 in absurd (cc))
    by_tests false b s t = inr (λ k. let is : (o == p) ≡ true = (Decides-eqb o p).1 k.0 in absurd (cc))

-- ---- what a list lists

abbrev pub cell_in : {C : Type 0} → ℕ → ℤ → List (Listed C) → Option C
cell_in o g [] = None
cell_in o g (e ∷ es) = cond (is_of o g e) (Some e.cell) (cell_in o g es)

pub listed_is : {C : Type 0} (o : ℕ) (g : ℤ) (es : List (Listed C)) → listed_cell o g es ≡ cell_in o g es
listed_is o g [] = refl
listed_is o g (e ∷ es) = by_test (is_of o g e) (listed_is o g es)
  where
    by_test : (b : Bool) → listed_cell o g es ≡ cell_in o g es → option_map (λ x. x.cell) (cond b (Some e) (find (is_of o g) es)) ≡ cond b (Some e.cell) (cell_in o g es)
    by_test true ih = refl
    by_test false ih = ih

-- a list without a granule doesn't list it, and lists all others
pub cell-without : {C : Type 0} (o : ℕ) (g : ℤ) (es : List (Listed C)) → cell_in o g (without_granule o g es) ≡ None
cell-without o g [] = refl
cell-without o g (e ∷ es) = by_test (is_of o g e) refl (cell-without o g es)
  where
    by_test : (b : Bool) → is_of o g e ≡ b → cell_in o g (without_granule o g es) ≡ None → cell_in o g (cond (not b) (e ∷ without_granule o g es) (without_granule o g es)) ≡ None
    by_test true t ih = ih
    by_test false t ih = cond_false (is_of o g e) (Some e.cell) (cell_in o g (without_granule o g es)) t ∙ ih

pub other-without : {C : Type 0} (o : ℕ) (g : ℤ) (p : ℕ) (h : ℤ) (es : List (Listed C)) → ¬ IsKey o g p h → cell_in p h (without_granule o g es) ≡ cell_in p h es
other-without o g p h [] ne = refl
other-without o g p h (e ∷ es) ne = by_test (is_of o g e) refl (other-without o g p h es ne)
  where
    by_test : (b : Bool) → is_of o g e ≡ b → cell_in p h (without_granule o g es) ≡ cell_in p h es → cell_in p h (cond (not b) (e ∷ without_granule o g es) (without_granule o g es)) ≡ cell_in p h (e ∷ es)
    by_test true t ih =
        let key = is_of_key o g e t in
        ih ∙ sym (cond_false (is_of p h e) (Some e.cell) (cell_in p h es) (other_is_not_of p h e (λ k. ne (sym key.0 ∙ k.0, sym key.1 ∙ k.1))))
    by_test false t ih = ap (cond (is_of p h e) (Some e.cell)) ih

-- ---- lists without repetition

abbrev pub IsUnique : {C : Type 0} → List (Listed C) → Type 0
IsUnique [] = Unit {0}
IsUnique (e ∷ es) = (cell_in e.object e.granule es ≡ None) × IsUnique es

pub unique-without : {C : Type 0} (o : ℕ) (g : ℤ) (es : List (Listed C)) → IsUnique es → IsUnique (without_granule o g es)
unique-without o g [] u = tt
unique-without o g (e ∷ es) u = by_test (is_of o g e) refl (unique-without o g es u.1)
  where
    by_test : (b : Bool) → is_of o g e ≡ b → IsUnique (without_granule o g es) → IsUnique (cond (not b) (e ∷ without_granule o g es) (without_granule o g es))
    by_test true t ih = ih
    by_test false t ih = (
      other-without o g e.object e.granule es (λ k. let is : is_of o g e ≡ true = key_is_of o g e (sym k.0, sym k.1) in absurd (cc)) ∙ u.0,
      ih,
    )

pub without-none : {C : Type 0} (o : ℕ) (g : ℤ) (es : List (Listed C)) → cell_in o g es ≡ None → without_granule o g es ≡ es
without-none o g [] n = refl
without-none {C} o g (e ∷ es) n = by_test (is_of o g e) refl (without-none o g es)
  where
    by_test : (b : Bool) → is_of o g e ≡ b → (cell_in o g es ≡ None → without_granule o g es ≡ es) → cond (not b) (e ∷ without_granule o g es) (without_granule o g es) ≡ e ∷ es
    by_test true t ih = let found = cond_true (is_of o g e) (Some e.cell) (cell_in o g es) t in absurd (cc)
    by_test false t ih =
        ap (λ (l : List (Listed C)). e ∷ l) (ih (sym (cond_false (is_of o g e) (Some e.cell) (cell_in o g es) t) ∙ n))

pub length-without : {C : Type 0} (o : ℕ) (g : ℤ) (c : C) (es : List (Listed C)) → IsUnique es → cell_in o g es ≡ Some c → suc (length (without_granule o g es)) ≡ length es
length-without o g c [] u s = absurd (cc)
length-without {C} o g c (e ∷ es) u s = by_test (is_of o g e) refl (length-without o g c es u.1)
  where
    by_test : (b : Bool) → is_of o g e ≡ b → (cell_in o g es ≡ Some c → suc (length (without_granule o g es)) ≡ length es) → suc (length (cond (not b) (e ∷ without_granule o g es) (without_granule o g es))) ≡ suc (length es)
    by_test true t ih =
        let key = is_of_key o g e t in
        let none : cell_in o g es ≡ None = rw (← key.0, ← key.1) u.0 in
        ap (λ (l : List (Listed C)). suc (length l)) (without-none o g es none)
    by_test false t ih =
        ap suc (ih (sym (cond_false (is_of o g e) (Some e.cell) (cell_in o g es) t) ∙ s))
