-- A search through a table whose rows stand by falling size finds a row of the greatest size.
use Rattle.std.proofs.Common.{◌≡◌, ℕ, ◌≤◌, ◌⊎◌, inl, inr, List, [], ◌∷◌, Bool, true, false, cond, ◌&&◌, leb, None, Some, refl, arith, ◌∙◌, ap, sym}
use Rattle.std.proofs.lemmas.Bool.{and_parts, leb-true}
use Rattle.std.specs.List.{list_all, find}

-- x stands in the list
abbrev pub Among : {X : Type 0} → X → List X → Type 0
Among x [] = ⊥
Among x (y ∷ ys) = (x ≡ y) ⊎ Among x ys

-- no row is longer than one before it
abbrev pub falls : {X : Type 0} → (X → ℕ) → List X → Bool
falls size [] = true
falls size (y ∷ ys) = list_all (λ x. leb (size x) (size y)) ys && falls size ys

pub list_all-among : {X : Type 0} (p : X → Bool) (x : X) (xs : List X) → list_all p xs ≡ true → Among x xs → p x ≡ true
list_all-among p x [] h m = absurd m
list_all-among p x (y ∷ ys) h (inl e) = ap p e ∙ (and_parts (p y) (list_all p ys) h).0
list_all-among p x (y ∷ ys) h (inr m) = list_all-among p x ys (and_parts (p y) (list_all p ys) h).1 m

-- a row that passes is found, or one before it
pub find-among : {X : Type 0} (p : X → Bool) (x : X) (xs : List X) → Among x xs → p x ≡ true → find p xs ≡ None → ⊥
find-among p x [] m h e = m
find-among p x (y ∷ ys) m h e = by (λ m. find-among p x ys m h) (p y) refl m e
  where
    by : (Among x ys → find p ys ≡ None → ⊥) → (b : Bool) → p y ≡ b → (x ≡ y) ⊎ Among x ys → cond b (Some y) (find p ys) ≡ None → ⊥
    by more true g m e = let z : Some y ≡ None = e in absurd (cc)
    by more false g (inl i) e = let z : true ≡ false = sym h ∙ ap p i ∙ g in absurd (cc)
    by more false g (inr m) e = more m e

pub find-greatest : {X : Type 0} (size : X → ℕ) (p : X → Bool) (x s : X) (xs : List X) → falls size xs ≡ true → Among x xs → p x ≡ true → find p xs ≡ Some s → size x ≤ size s
find-greatest size p x s [] f m h e = absurd m
find-greatest size p x s (y ∷ ys) f m h e =
    by (λ m. find-greatest size p x s ys (and_parts (list_all (λ x. leb (size x) (size y)) ys) (falls size ys) f).1 m h) (p y) refl m e
  where
    first : (x ≡ y) ⊎ Among x ys → size x ≤ size y
    first (inl i) = omega (arith, ap size i)
    first (inr m) = leb-true (size x) (size y) (list_all-among (λ x. leb (size x) (size y)) x ys (and_parts (list_all (λ x. leb (size x) (size y)) ys) (falls size ys) f).0 m)

    by : (Among x ys → find p ys ≡ Some s → size x ≤ size s) → (b : Bool) → p y ≡ b → (x ≡ y) ⊎ Among x ys → cond b (Some y) (find p ys) ≡ Some s → size x ≤ size s
    by more true g m e = let z : y ≡ s = cc in omega (arith, first m, ap size z)
    by more false g (inl i) e = let z : true ≡ false = sym h ∙ ap p i ∙ g in absurd (cc)
    by more false g (inr m) e = more m e
