-- The numbers of functions as one more is added.
use Rattle.std.proofs.Common.{◌≡◌, ℕ, ◌+◌, false, Option, Some, None, List, [], ◌∷◌, ◌++◌, length, map, refl, ap, sym, ◌∙◌, arith, ⊎_elim, if◌then◌else◌}
use Rattle.std.specs.Prelude.{◌||◌, option_map}
use Rattle.std.specs.Str.{bytes_eq}
use Rattle.std.specs.Option.{is_some}
use Rattle.std.proofs.lemmas.Bool.{cases_Bool, cond-true, cond-false}
use Rattle.std.proofs.lemmas.List.{length-map, length-reverse, reverse-append}
use Rattle.std.proofs.lemmas.Slice.Eq.{bytes_eq-Decides}
use Rattle.ob_typed.specs.Expressions.{number_from}
use Rattle.ob_typed.specs.Functions.{is_one_of}
use Rattle.ob_scopes.specs.Bindings.{bound}
use Rattle.ob_context.specs.Numbered.{AreNumbered, first_from, names_of}

-- ---- a list of names, and one more

first-more : (n : ℕ) (x : List ℕ) (ns : List (List ℕ)) → first_from n x (ns ++ x ∷ []) ≡ Some (number_from n x ns)
first-more n x [] = cond-true (bytes_eq x x) (Some n) None ((bytes_eq-Decides x x).1 refl)
first-more n x (b ∷ bs) =
    ⊎_elim
    (λ y. cond-true (bytes_eq b x) (Some n) (first_from (n + 1) x (bs ++ x ∷ [])) y ∙ sym (ap Some (cond-true (bytes_eq b x) n (number_from (n + 1) x bs) y)))
    (λ f. cond-false (bytes_eq b x) (Some n) (first_from (n + 1) x (bs ++ x ∷ [])) f ∙ first-more (n + 1) x bs ∙ sym (ap Some (cond-false (bytes_eq b x) n (number_from (n + 1) x bs) f)))
    (cases_Bool (bytes_eq b x))

first-other : (n : ℕ) (name x : List ℕ) (ns : List (List ℕ)) → bytes_eq name x ≡ false → first_from n x (ns ++ name ∷ []) ≡ first_from n x ns
first-other n name x [] f = cond-false (bytes_eq name x) (Some n) None f
first-other n name x (b ∷ bs) f = ap (λ (o : Option ℕ). if bytes_eq b x then Some n else o) (first-other (n + 1) name x bs f)

number-found : (n : ℕ) (x : List ℕ) (ns : List (List ℕ)) (k : ℕ) → Some k ≡ first_from n x ns → k ≡ number_from n x ns
number-found n x [] k h = absurd cc
number-found n x (b ∷ bs) k h =
    ⊎_elim
    (λ y. let s : Some k ≡ Some n = h ∙ cond-true (bytes_eq b x) (Some n) (first_from (n + 1) x bs) y in
    let t : k ≡ n = cc in t ∙ sym (cond-true (bytes_eq b x) n (number_from (n + 1) x bs) y))
    (λ f. number-found (n + 1) x bs k (h ∙ cond-false (bytes_eq b x) (Some n) (first_from (n + 1) x bs) f) ∙ sym (cond-false (bytes_eq b x) n (number_from (n + 1) x bs) f))
    (cases_Bool (bytes_eq b x))

number-none : (n : ℕ) (x : List ℕ) (ns : List (List ℕ)) → None ≡ first_from n x ns → n + length ns ≡ number_from n x ns
number-none n x [] h = omega arith
number-none n x (b ∷ bs) h =
    ⊎_elim
    (λ y. let s : None ≡ Some n = h ∙ cond-true (bytes_eq b x) (Some n) (first_from (n + 1) x bs) y in absurd cc)
    (λ f. let s : (n + 1) + length bs ≡ number_from (n + 1) x bs = number-none (n + 1) x bs (h ∙ cond-false (bytes_eq b x) (Some n) (first_from (n + 1) x bs) f) in
    let t : n + length (b ∷ bs) ≡ (n + 1) + length bs = omega arith in
    t ∙ s ∙ sym (cond-false (bytes_eq b x) n (number_from (n + 1) x bs) f))
    (cases_Bool (bytes_eq b x))

one_of-first : (n : ℕ) (x : List ℕ) (ns : List (List ℕ)) → is_some (first_from n x ns) ≡ is_one_of x ns
one_of-first n x [] = refl
one_of-first n x (b ∷ bs) =
    ⊎_elim
    (λ y. ap is_some (cond-true (bytes_eq b x) (Some n) (first_from (n + 1) x bs) y) ∙ sym (ap (λ t. t || is_one_of x bs) y))
    (λ f. ap is_some (cond-false (bytes_eq b x) (Some n) (first_from (n + 1) x bs) f) ∙ one_of-first (n + 1) x bs ∙ sym (ap (λ t. t || is_one_of x bs) f))
    (cases_Bool (bytes_eq b x))

-- ---- the same of the names of a table

pub names-more : (name : List ℕ) (k : ℕ) (bs : List (List ℕ × ℕ)) → names_of ((name, k) ∷ bs) ≡ names_of bs ++ name ∷ []
names-more name k bs = reverse-append (name ∷ []) (map (λ (b : List ℕ × ℕ). b.0) bs)

pub length-names : (bs : List (List ℕ × ℕ)) → length (names_of bs) ≡ length bs
length-names bs = length-reverse (map (λ (b : List ℕ × ℕ). b.0) bs) ∙ length-map bs (λ (b : List ℕ × ℕ). b.0)

pub numbered-more : (bs : List (List ℕ × ℕ)) (name : List ℕ) (k : ℕ) → AreNumbered bs → k ≡ number_from 0 name (names_of bs) → AreNumbered ((name, k) ∷ bs)
numbered-more bs name k h e x =
    ⊎_elim
    (λ y. cond-true (bytes_eq name x) (Some k) (bound x bs) y ∙ ap Some e ∙ sym (first-more 0 name (names_of bs))
    ∙ ap (first_from 0 name) (sym (names-more name k bs)) ∙ ap (λ z. first_from 0 z (names_of ((name, k) ∷ bs))) ((bytes_eq-Decides name x).0 y))
    (λ f. cond-false (bytes_eq name x) (Some k) (bound x bs) f ∙ h x ∙ sym (first-other 0 name x (names_of bs) f) ∙ ap (first_from 0 x) (sym (names-more name k bs)))
    (cases_Bool (bytes_eq name x))

pub bound-found : (bs : List (List ℕ × ℕ)) (name : List ℕ) (k : ℕ) → AreNumbered bs → Some k ≡ bound name bs → k ≡ number_from 0 name (names_of bs)
bound-found bs name k h s = number-found 0 name (names_of bs) k (s ∙ h name)

pub bound-none : (bs : List (List ℕ × ℕ)) (name : List ℕ) → AreNumbered bs → None ≡ bound name bs → length bs ≡ number_from 0 name (names_of bs)
bound-none bs name h s =
    let t : 0 + length (names_of bs) ≡ number_from 0 name (names_of bs) = number-none 0 name (names_of bs) (s ∙ h name) in
    omega (arith, t, length-names bs)

pub bound-some : (bs : List (List ℕ × ℕ)) (name : List ℕ) → AreNumbered bs → is_some (bound name bs) ≡ is_one_of name (names_of bs)
bound-some bs name h = ap is_some (h name) ∙ one_of-first 0 name (names_of bs)

pub found-some : {A B : Type 0} (f : A → B) (o : Option A) → is_some o ≡ is_some (option_map f o)
found-some f None = refl
found-some f (Some a) = refl
