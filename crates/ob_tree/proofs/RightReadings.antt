-- A machine with the correct-prefix property gives the right verdict.
use Rattle.std.proofs.Common.{◌≡◌, ℕ, zero, suc, ◌+◌, ◌-◌, ◌<◌, ◌≤◌, ◌⊎◌, inl, inr, List, [], ◌∷◌, ◌++◌, length, take, drop, map, Bool, true, false, Option, Some, None, cond, refl, sym, ◌∙◌, ap, subst, arith, length-drop, length-take-le}
use Rattle.std.specs.Prelude.{nat_le}
use Rattle.std.specs.List.{All}
use Rattle.std.proofs.lemmas.Bool.{leb-true, cases_lt}
use Rattle.std.proofs.lemmas.Bool.Decides.{nat_tests}
use Rattle.std.proofs.lemmas.List.{length-map, map-append}
use Rattle.std.proofs.lemmas.List.Elements.{All-take, All-drop, All-map}
use Rattle.ob_tree.specs.declared.tokens.Token.{Token}
use Rattle.ob_tree.specs.declared.tokens.TokenKind.{TokenKind}
use Rattle.ob_tree.specs.Valid.{IsOfSource}
use Rattle.ob_tree.specs.Fronts.{greatest_path, kinds, within, any, FrontOf}
use Rattle.ob_tree.specs.Verdicts.{Stops, Verdict, IsVerdict}
use Rattle.ob_tree.specs.Readings.{Deep, turn, read, found, verdict, CorrectPrefix}

-- one token more of a list
take-next : {A : Type 0} (xs : List A) (n : ℕ) (x : A) (rest : List A) → drop n xs ≡ x ∷ rest → take (n + 1) xs ≡ take n xs ++ x ∷ []
take-next xs n x rest e = take-more xs n x rest e
  where
    take-more : {A : Type 0} (xs : List A) (n : ℕ) (x : A) (rest : List A) → drop n xs ≡ x ∷ rest → take (n + 1) xs ≡ take n xs ++ x ∷ []
    take-more [] zero x rest e = absurd cc
    take-more [] (suc n) x rest e = absurd cc
    take-more (y ∷ ys) zero x rest e = let h : y ≡ x = cc in ap (λ z. z ∷ []) h
    take-more (y ∷ ys) (suc n) x rest e =
        let m : suc n + 1 ≡ suc (n + 1) = omega arith in
        ap (λ k. take k (y ∷ ys)) m ∙ ap (λ zs. y ∷ zs) (take-more ys n x rest e)

drop-next : {A : Type 0} (xs : List A) (n : ℕ) (x : A) (rest : List A) → drop n xs ≡ x ∷ rest → drop (n + 1) xs ≡ rest
drop-next [] zero x rest e = absurd cc
drop-next [] (suc n) x rest e = absurd cc
drop-next (y ∷ ys) zero x rest e = let h : ys ≡ rest = cc in h
drop-next (y ∷ ys) (suc n) x rest e =
    let m : suc n + 1 ≡ suc (n + 1) = omega arith in
    ap (λ k. drop k (y ∷ ys)) m ∙ drop-next ys n x rest e

drop-more : {A : Type 0} (xs : List A) (m n : ℕ) → drop m (drop n xs) ≡ drop (n + m) xs
drop-more xs m zero = let e : zero + m ≡ m = omega arith in ap (λ k. drop k xs) (sym e)
drop-more [] zero (suc n) = let e : suc n + zero ≡ suc (n + zero) = omega arith in ap (λ k. drop k []) (sym e)
drop-more [] (suc m) (suc n) = let e : suc n + suc m ≡ suc (n + suc m) = omega arith in ap (λ k. drop k []) (sym e)
drop-more (y ∷ ys) m (suc n) = let e : suc n + m ≡ suc (n + m) = omega arith in drop-more ys m n ∙ ap (λ k. drop k (y ∷ ys)) (sym e)

pub kinds-next : (ts : List Token) (from i : ℕ) (t : Token) (rest : List Token) → from ≤ i → drop i ts ≡ t ∷ rest → kinds ts from (i + 1) ≡ kinds ts from i ++ t.kind ∷ []
kinds-next ts from i t rest h e =
    let n : i + 1 - from ≡ i - from + 1 = omega arith in
    let w : from + (i - from) ≡ i = omega arith in
    ap (λ n. map (λ t. t.kind) (take n (drop from ts))) n
    ∙ ap (map (λ t. t.kind)) (take-next (drop from ts) (i - from) t rest (drop-more ts (i - from) from ∙ ap (λ k. drop k ts) w ∙ e))
    ∙ map-append (λ t. t.kind) (take (i - from) (drop from ts)) (t ∷ [])

pub length-kinds : (ts : List Token) (from i : ℕ) → from ≤ i → i ≤ length ts → length (kinds ts from i) ≡ i - from
length-kinds ts from i f h =
    length-map (take (i - from) (drop from ts)) (λ t. t.kind) ∙ length-take-le (i - from) (drop from ts) (omega (arith, length-drop from ts))

pub all-kinds : (ts : List Token) (from i : ℕ) → All (λ t. IsOfSource t.kind) ts → All IsOfSource (kinds ts from i)
all-kinds ts from i a =
    All-map IsOfSource (λ t. t.kind) (take (i - from) (drop from ts)) (All-take (λ t. IsOfSource t.kind) (i - from) (drop from ts) (All-drop (λ t. IsOfSource t.kind) from ts a))

le-false : (a b : ℕ) → nat_le a b ≡ false → b < a
le-false a b h = grind (arith, nat_tests)

module _ {S T : Type 0} (shift : ℕ → TokenKind → S → Option S) (deepest_path : S → ℕ) (finish : S → Option T)
    (begin : (ℕ → Type 0) → List TokenKind → Type 0) (is : (ℕ → Type 0) → List TokenKind → T → Type 0) (placed : T → Type 0)
    (from depth : ℕ) (machine : List TokenKind → Option S) (reads : CorrectPrefix shift deepest_path finish begin is placed from depth machine)
    (ts : List Token) (all : All (λ t. IsOfSource t.kind) ts) where
  abbrev Front : ℕ → Type 0
  Front i = FrontOf (begin (within depth)) (λ ks. (t : T) × is (within depth) ks t) ts from i

  abbrev DeepFront : ℕ → Type 0
  DeepFront i = FrontOf (begin any) (λ ks. (t : T) × is any ks t) ts from i

  abbrev Right : Verdict T → Type 0
  Right v = IsVerdict Front DeepFront from (length ts) (λ i t. is (within depth) (kinds ts from i) t) placed v

  -- where the machine stops
  stopped : (i : ℕ) (s : S) → machine (kinds ts from i) ≡ Some s → depth + deepest_path s ≤ greatest_path → Stops Front DeepFront from (length ts) i → Right (found i (finish s))
  stopped i s e l h = go (finish s) refl
    where
      go : (o : Option T) → finish s ≡ o → Right (found i o)
      go None f = (h, reads.no_tree (kinds ts from i) s e f)
      go (Some t) f =
          let w = reads.some_tree (kinds ts from i) s t (all-kinds ts from i all) e l f in
          (h, w.0, w.1)

  no-front : (i : ℕ) → i < length ts → machine (kinds ts from (i + 1)) ≡ None → Front i → ⊥
  no-front i h e (inl f) =
      let g = reads.goes_on (kinds ts from (i + 1)) f.1 in
      let q : Some g.0 ≡ None = sym g.1 ∙ e in absurd cc
  no-front i h e (inr f) = omega (arith, f.0)

  no-deep : (i : ℕ) → i < length ts → machine (kinds ts from (i + 1)) ≡ None → DeepFront i → ⊥
  no-deep i h e (inl f) =
      let g = reads.goes_on_deep (kinds ts from (i + 1)) f.1 in
      let q : Some g.0 ≡ None = sym g.1 ∙ e in absurd cc
  no-deep i h e (inr f) = omega (arith, f.0)

  too-deep : (i : ℕ) (s : S) → i < length ts → machine (kinds ts from (i + 1)) ≡ Some s → greatest_path < depth + deepest_path s → Front i → ⊥
  too-deep i s h e l (inl f) =
      let g = reads.goes_on (kinds ts from (i + 1)) f.1 in
      let q : Some g.0 ≡ Some s = sym g.1 ∙ e in
      let r : g.0 ≡ s = cc in
      omega (arith, g.2, ap deepest_path r)
  too-deep i s h e l (inr f) = omega (arith, f.0)

  some-length : (rest : List Token) (i : ℕ) → drop i ts ≡ rest → i ≤ length ts → length rest ≡ length ts - i
  some-length rest i e h = ap length (sym e) ∙ length-drop i ts

  pub right : (rest : List Token) (i : ℕ) (s : S) → drop i ts ≡ rest → from ≤ i → i ≤ length ts → machine (kinds ts from i) ≡ Some s → depth + deepest_path s ≤ greatest_path
      → ((j : ℕ) → from ≤ j → j < i → Front j) → Right (verdict finish (read shift deepest_path depth i (map (λ t. t.kind) rest) s))
  right [] i s e f b m l before =
      let w : i ≡ length ts = omega (arith, some-length [] i e b) in
      stopped i s m l (inr (w, λ j g h. before j g (omega (arith, w))))
  right (t ∷ rest) i s e f b m l before =
      go (shift i t.kind s) here (λ s2 m2 l2 b2. right rest (i + 1) s2 (drop-next ts i t rest e) (omega arith) (omega (arith, below)) m2 l2 b2)
    where
      below : i < length ts
      below = omega (arith, some-length (t ∷ rest) i e b)

      here : machine (kinds ts from (i + 1)) ≡ shift i t.kind s
      here =
          let p : from + length (kinds ts from i) ≡ i = omega (arith, length-kinds ts from i f b) in
          ap machine (kinds-next ts from i t rest f e) ∙ reads.more (kinds ts from i) t.kind s m ∙ ap (λ q. shift q t.kind s) p

      next : (s2 : S) → machine (kinds ts from (i + 1)) ≡ Some s2 → depth + deepest_path s2 ≤ greatest_path → (j : ℕ) → from ≤ j → j < i + 1 → Front j
      next s2 m2 l2 j g h = pick (cases_lt j i)
        where
          pick : (j < i) ⊎ (i ≤ j) → Front j
          pick (inl a) = before j g a
          pick (inr a) =
              let q : i ≡ j = omega arith in
              subst Front q (inl (below, reads.begins (kinds ts from (i + 1)) s2 (all-kinds ts from (i + 1) all) m2 l2))

      go : (o : Option S) → machine (kinds ts from (i + 1)) ≡ o
          → ((s2 : S) → machine (kinds ts from (i + 1)) ≡ Some s2 → depth + deepest_path s2 ≤ greatest_path → ((j : ℕ) → from ≤ j → j < i + 1 → Front j)
          → Right (verdict finish (read shift deepest_path depth (i + 1) (map (λ t. t.kind) rest) s2)))
          → Right (verdict finish (turn deepest_path depth i s (λ u. read shift deepest_path depth (i + 1) (map (λ t. t.kind) rest) u) o))
      go None m2 again =
          stopped i s m l (inl (record { at_least = f; below = below; before = before; without = no-front i below m2 }, no-deep i below m2))
      go (Some s2) m2 again = test (nat_le (depth + deepest_path s2) greatest_path) refl
        where
          test : (b : Bool) → nat_le (depth + deepest_path s2) greatest_path ≡ b
              → Right (verdict finish (cond b (read shift deepest_path depth (i + 1) (map (λ t. t.kind) rest) s2) (Deep i)))
          test true h = let l2 : depth + deepest_path s2 ≤ greatest_path = leb-true _ _ h in again s2 m2 l2 (next s2 m2 l2)
          test false h = (
            record { at_least = f; below = below; before = before; without = too-deep i s2 below m2 (le-false _ _ h) },
            inl (below, reads.begins_deep (kinds ts from (i + 1)) s2 (all-kinds ts from (i + 1) all) m2),
          )
