-- First bytes of a list, and what a search through a table finds.
use Rattle.std.proofs.Common.{◌≡◌, ℕ, zero, suc, ◌+◌, ◌<◌, ◌≤◌, List, [], ◌∷◌, ◌++◌, length, get_or, take, drop, Bool, true, false, cond, None, Some, refl, arith, ◌∙◌, ap, sym, subst}
use Rattle.std.proofs.lemmas.List.{take_at, drop_at, length-append, length-take-le}
use Rattle.std.proofs.lemmas.Bool.{and_parts, and_from}
use Rattle.std.specs.List.{prefix_len, list_all, find}
use Rattle.std.specs.Str.{bytes_eq}
use Rattle.std.proofs.lemmas.Slice.Eq.{bytes_eq-Decides}
use Rattle.ob_tree.specs.Bytes.{begins_with}

pub take-here : (t a rest : List ℕ) → t ++ a ≡ rest → take (length t) rest ≡ t
take-here t a rest e = subst (λ r. take (length t) r ≡ t) e (take_at t a (length t) refl)

pub drop-here : (t a rest : List ℕ) → t ++ a ≡ rest → drop (length t) rest ≡ a
drop-here t a rest e = subst (λ r. drop (length t) r ≡ a) e (drop_at t a (length t) refl)

pub length-here : (t a rest : List ℕ) → t ++ a ≡ rest → length t ≤ length rest
length-here t a rest e = omega (arith, ap length e, length-append t a)

-- two first parts of one length are the same
pub same-here : (t a u b rest : List ℕ) → t ++ a ≡ rest → u ++ b ≡ rest → length t ≡ length u → t ≡ u
same-here t a u b rest e f l = sym (take-here t a rest e) ∙ ap (λ n. take n rest) l ∙ take-here u b rest f

pub bytes_eq-same : (xs ys : List ℕ) → bytes_eq xs ys ≡ true → xs ≡ ys
bytes_eq-same xs ys e = (bytes_eq-Decides xs ys).0 e

pub bytes_eq-refl : (xs ys : List ℕ) → xs ≡ ys → bytes_eq xs ys ≡ true
bytes_eq-refl xs ys e = (bytes_eq-Decides xs ys).1 e

-- bytes of a class

pub prefix_len-within : (p : ℕ → Bool) (xs : List ℕ) → prefix_len p xs ≤ length xs
prefix_len-within p [] = omega arith
prefix_len-within p (x ∷ xs) =
    elim (p x) as (λ b. cond b (1 + prefix_len p xs) 0 ≤ suc (length xs)) [ true ↦ (let r = prefix_len-within p xs in omega arith) | false ↦ omega arith ]

pub length-prefix : (p : ℕ → Bool) (xs : List ℕ) → length (take (prefix_len p xs) xs) ≡ prefix_len p xs
length-prefix p xs = length-take-le (prefix_len p xs) xs (prefix_len-within p xs)

pub list_all-prefix : (p : ℕ → Bool) (xs : List ℕ) → list_all p (take (prefix_len p xs) xs) ≡ true
list_all-prefix p [] = refl
list_all-prefix p (x ∷ xs) = by (list_all-prefix p xs) (p x) refl
  where
    by : list_all p (take (prefix_len p xs) xs) ≡ true → (b : Bool) → p x ≡ b → list_all p (take (cond b (1 + prefix_len p xs) 0) (x ∷ xs)) ≡ true
    by more true e = subst (λ n. list_all p (take n (x ∷ xs)) ≡ true) (let s : suc (prefix_len p xs) ≡ 1 + prefix_len p xs = omega arith in s) (and_from (p x) (list_all p (take (prefix_len p xs) xs)) e more)
    by more false e = refl

-- a first part of this class is no longer than the longest
pub prefix_len-most : (p : ℕ → Bool) (t a : List ℕ) → list_all p t ≡ true → length t ≤ prefix_len p (t ++ a)
prefix_len-most p [] a h = omega arith
prefix_len-most p (x ∷ t) a h =
    let parts = and_parts (p x) (list_all p t) h in
    let more = prefix_len-most p t a parts.1 in
    rw (parts.0) (let r : suc (length t) ≤ 1 + prefix_len p (t ++ a) = omega (arith, more) in r)

-- a first part of this class behind which another byte or nothing stands is the longest
pub prefix_len-exact : (p : ℕ → Bool) (t a : List ℕ) → list_all p t ≡ true → (begins_with p a ≡ true → ⊥) → prefix_len p (t ++ a) ≡ length t
prefix_len-exact p [] [] h n = refl
prefix_len-exact p [] (c ∷ a) h n = by (p c) refl
  where
    by : (b : Bool) → p c ≡ b → cond b (1 + prefix_len p a) 0 ≡ 0
    by true e = absurd (n e)
    by false e = refl
prefix_len-exact p (x ∷ t) a h n =
    let parts = and_parts (p x) (list_all p t) h in
    let more = prefix_len-exact p t a parts.1 n in
    rw (parts.0) (let r : 1 + prefix_len p (t ++ a) ≡ suc (length t) = omega (arith, more) in r)

-- a first byte of the class makes the part no empty one
pub prefix_len-some : (p : ℕ → Bool) (c : ℕ) (cs : List ℕ) → p c ≡ true → 1 ≤ prefix_len p (c ∷ cs)
prefix_len-some p c cs e = rw e (let r : 1 ≤ 1 + prefix_len p cs = omega arith in r)

-- searches

pub find-true : {X : Type 0} (p : X → Bool) (xs : List X) (x : X) → find p xs ≡ Some x → p x ≡ true
find-true p [] x e = absurd (let z : None ≡ Some x = e in cc)
find-true p (y ∷ ys) x e = by (find-true p ys x) (p y) refl e
  where
    by : (find p ys ≡ Some x → p x ≡ true) → (b : Bool) → p y ≡ b → cond b (Some y) (find p ys) ≡ Some x → p x ≡ true
    by more true h e = let s : y ≡ x = cc in sym (ap p s) ∙ h
    by more false h e = more e

pub find-none : {X : Type 0} (p : X → Bool) (xs : List X) (i : ℕ) (d : X) → find p xs ≡ None → i < length xs → p (get_or xs i d) ≡ false
find-none p [] i d e l = absurd (omega arith)
find-none p (y ∷ ys) i d e l = by (λ k. find-none p ys k d) (p y) refl e i l
  where
    at : ((k : ℕ) → find p ys ≡ None → k < length ys → p (get_or ys k d) ≡ false) → (i : ℕ) → find p ys ≡ None → p y ≡ false → i < suc (length ys) → p (get_or (y ∷ ys) i d) ≡ false
    at more zero e h l = h
    at more (suc i) e h l = more i e (omega arith)

    by : ((k : ℕ) → find p ys ≡ None → k < length ys → p (get_or ys k d) ≡ false) → (b : Bool) → p y ≡ b → cond b (Some y) (find p ys) ≡ None → (i : ℕ) → i < suc (length ys) → p (get_or (y ∷ ys) i d) ≡ false
    by more true h e i l = absurd (let z : Some y ≡ None = e in cc)
    by more false h e i l = at more i e h l
