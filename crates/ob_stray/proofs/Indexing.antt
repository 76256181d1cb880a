-- The set of the listed granules, as the list changes.
use Rattle.std.proofs.Common.{◌≡◌, ◌<◌, ◌≤◌, ◌==◌, ◌-◌, ℕ, zero, suc, Bool, true, false, cond, is_some, is_eq, List, [], ◌∷◌, length, take, slice_get, Option, Some, None, Result, Ok, Err, IsOk, OnOk, FitsSigned, ℤ, w64, to_z, arith, refl, sym, ap, ◌∙◌, subst}
use Rattle.std.specs.List.{IsDistinct, AllByRecursion}
use Rattle.std.specs.Option.{option_map, option_map_or}
use Rattle.std.specs.Map.{keys_of, lookup, lookup_entry, remove_entry}
use Rattle.std.specs.BTreeSet.{contains, IsKeyRangeOf}
use Rattle.std.specs.declared.ops.Bound.TheVariants.{Included, Unbounded}
use Rattle.std.proofs.lemmas.Bool.{false≢true, eq-eqb, eqb-true}
use Rattle.std.proofs.lemmas.Map.{lookup-remove_entry}
use Rattle.lru.specs.LruCache.{lru_cache, promoted, put_entries, displaced}
use Rattle.ob_model.specs.Bounded.{surviving_cells}
use Rattle.ob_model.specs.Descriptors.{Pair, same_pair}
use Rattle.ob_model.specs.declared.values.Cell.{Cell}
use Rattle.ob_stray.specs.Kept.{Entry, entry_of, listing, is_listed, is_other, others, pair_cmp, Index, IsIndex}
use Rattle.ob_stray.proofs.Keys.{same-true, same-refl, same-flips, same-laws, at-same, from-least, between-own}
use Rattle.ob_stray.proofs.Listings.{value_of, key_of, found_of, none_of, one_less}

-- what holds at `Ok`, where there is one
pub at-ok : {T E P : Type 0} (r : Result T E) → IsOk r → OnOk r P → P
at-ok (Ok x) ok p = p
at-ok (Err e) ok p = absurd (false≢true ok)

-- ---- what is listed

pub listed-cons : (q : Pair) (e : Entry) (es : List Entry) → is_listed q (e ∷ es) ≡ cond (same_pair q e.0) true (is_listed q es)
listed-cons q e es = by_test (same_pair q e.0)
  where
    by_test : (b : Bool) → is_some (cond b (Some e.1) (lookup (same_pair q) es)) ≡ cond b true (is_listed q es)
    by_test true = refl
    by_test false = refl

some_of : {A : Type 0} (b : Bool) (o : Option A) → is_some (cond b None o) ≡ cond b false (is_some o)
some_of true o = refl
some_of false o = refl

pub listed-removed : (k q : Pair) (es : List Entry) → IsDistinct same_pair (keys_of es) → is_listed q (remove_entry (same_pair k) es) ≡ cond (same_pair k q) false (is_listed q es)
listed-removed k q es d =
    ap is_some (lookup-remove_entry same-laws (same_pair k) (same-laws.congr k) q es d) ∙ some_of (same_pair k q) (lookup (same_pair q) es)

listed_found : (k : Pair) (es : List Entry) (f : Entry) → lookup_entry (same_pair k) es ≡ Some f → is_listed k es ≡ true
listed_found k es f h = ap is_some (value_of k es ∙ ap (option_map (λ (e : Entry). e.1)) h)

-- a listed granule that goes to the front, with any cell
to_front : (k q : Pair) (v : Cell) (es : List Entry) (f : Entry) → lookup_entry (same_pair k) es ≡ Some f → IsDistinct same_pair (keys_of es) → is_listed q ((f.0, v) ∷ remove_entry (same_pair k) es) ≡ is_listed q es
to_front k q v es f h d =
    listed-cons q (f.0, v) (remove_entry (same_pair k) es)
    ∙ ap (λ (p : Pair). cond (same_pair q p) true (is_listed q (remove_entry (same_pair k) es))) (sym (key_of k es f h))
    ∙ ap (cond (same_pair q k) true) (listed-removed k q es d)
    ∙ ap (λ b. cond b true (cond (same_pair k q) false (is_listed q es))) (same-flips q k)
    ∙ by_test (same_pair k q) refl
  where
    by_test : (b : Bool) → same_pair k q ≡ b → cond b true (cond b false (is_listed q es)) ≡ is_listed q es
    by_test true same = sym (listed_found k es f h) ∙ ap (λ (p : Pair). is_listed p es) (same-true k q same)
    by_test false same = refl

promoted_cases : (k q : Pair) (es : List Entry) (o : Option Entry) → lookup_entry (same_pair k) es ≡ o → IsDistinct same_pair (keys_of es) → is_listed q (option_map_or (λ (e : Entry). e ∷ remove_entry (same_pair k) es) o es) ≡ is_listed q es
promoted_cases k q es None h d = refl
promoted_cases k q es (Some f) h d = to_front k q f.1 es f h d

-- ---- the last entry of a full list

pub take-none : {A : Type 0} (n : ℕ) (xs : List A) → slice_get xs n ≡ None → take n xs ≡ xs
take-none zero [] h = refl
take-none zero (x ∷ xs) h = cc
take-none (suc n) [] h = refl
take-none (suc n) (x ∷ xs) h = ap (λ l. x ∷ l) (take-none n xs h)

apart_at : (k : Pair) (n : ℕ) (es : List Entry) (e : Entry) → slice_get es n ≡ Some e → AllByRecursion (λ y. same_pair k y ≡ false) (keys_of es) → same_pair k e.0 ≡ false
apart_at k n [] e h a = cc
apart_at k zero (f ∷ es) e h a = let same : f ≡ e = cc in subst (λ (g : Entry). same_pair k g.0 ≡ false) same a.0
apart_at k (suc n) (f ∷ es) e h a = apart_at k n es e h a.1

listed_at : (n : ℕ) (es : List Entry) (e : Entry) → slice_get es n ≡ Some e → is_listed e.0 es ≡ true
listed_at n [] e h = cc
listed_at zero (f ∷ es) e h =
    let same : f ≡ e = cc in
    listed-cons e.0 f es ∙ ap (λ (g : Entry). cond (same_pair e.0 g.0) true (is_listed e.0 es)) same ∙ ap (λ b. cond b true (is_listed e.0 es)) (same-refl e.0)
listed_at (suc n) (f ∷ es) e h = listed-cons e.0 f es ∙ ap (cond (same_pair e.0 f.0) true) (listed_at n es e h) ∙ by_test (same_pair e.0 f.0)
  where
    by_test : (b : Bool) → cond b true true ≡ true
    by_test true = refl
    by_test false = refl

-- of two granules one of which is listed
other_than : (j k : Pair) (es : List Entry) → is_listed j es ≡ true → is_listed k es ≡ false → same_pair j k ≡ false
other_than j k es here gone = by_test (same_pair j k) refl
  where
    by_test : (b : Bool) → same_pair j k ≡ b → same_pair j k ≡ false
    by_test true same = absurd (false≢true (sym gone ∙ ap (λ (p : Pair). is_listed p es) (sym (same-true j k same)) ∙ here))
    by_test false same = same

pub listed-take : (q : Pair) (n : ℕ) (es : List Entry) (e : Entry) → slice_get es n ≡ Some e → length es ≤ suc n → IsDistinct same_pair (keys_of es) → is_listed q (take n es) ≡ cond (same_pair e.0 q) false (is_listed q es)
unfolding IsDistinct
listed-take q n [] e h fits d = cc
listed-take q zero (f ∷ []) e h fits d =
    let same : f ≡ e = cc in
    subst (λ (g : Entry). false ≡ cond (same_pair g.0 q) false (is_listed q (f ∷ []))) same
    (by_test (same_pair f.0 q) ∙ ap (cond (same_pair f.0 q) false) (ap (λ b. cond b true false) (same-flips f.0 q) ∙ sym (listed-cons q f [])))
  where
    by_test : (b : Bool) → false ≡ cond b false (cond b true false)
    by_test true = refl
    by_test false = refl
listed-take q zero (f ∷ g ∷ es) e h fits d = absurd (omega arith)
listed-take q (suc n) (f ∷ es) e h fits d =
    listed-cons q f (take n es)
    ∙ ap (cond (same_pair q f.0) true) (listed-take q n es e h (omega arith) d.1)
    ∙ by_test (same_pair e.0 q) refl
    ∙ ap (cond (same_pair e.0 q) false) (sym (listed-cons q f es))
  where
    by_test : (b : Bool) → same_pair e.0 q ≡ b → cond (same_pair q f.0) true (cond b false (is_listed q es)) ≡ cond b false (cond (same_pair q f.0) true (is_listed q es))
    by_test true same =
        let apart : same_pair f.0 e.0 ≡ false = apart_at f.0 n es e h d.0 in
        let other : same_pair q f.0 ≡ false = same-flips q f.0 ∙ ap (same_pair f.0) (sym (same-true e.0 q same)) ∙ apart in
        ap (λ b. cond b true false) other
    by_test false same = refl

-- ---- the set

abbrev pub Inserted : Index → Index → Pair → Type 0
Inserted s t k = (q : Pair) → contains pair_cmp t q ≡ cond (is_eq (pair_cmp k q)) true (contains pair_cmp s q)

abbrev pub Removed : Index → Index → Pair → Type 0
Removed s t k = (q : Pair) → contains pair_cmp t q ≡ cond (is_eq (pair_cmp k q)) false (contains pair_cmp s q)

abbrev Fits : Index → Type 0
Fits s = (p : Pair) → contains pair_cmp s p ≡ true → FitsSigned w64 p.1

fits_inserted : (s t : Index) (k : Pair) → Inserted s t k → FitsSigned w64 k.1 → Fits s → Fits t
fits_inserted s t k step new fits p has = by_test (same_pair k p) refl
  where
    by_test : (b : Bool) → same_pair k p ≡ b → FitsSigned w64 p.1
    by_test true same = subst (λ (q : Pair). FitsSigned w64 q.1) (same-true k p same) new
    by_test false same = fits p (ap (λ b. cond b true (contains pair_cmp s p)) (sym (at-same k p ∙ same)) ∙ sym (step p) ∙ has)

fits_removed : (s t : Index) (k : Pair) → Removed s t k → Fits s → Fits t
fits_removed s t k step fits p has = fits p (by_test (is_eq (pair_cmp k p)) (sym (step p) ∙ has))
  where
    by_test : (b : Bool) → cond b false (contains pair_cmp s p) ≡ true → contains pair_cmp s p ≡ true
    by_test true h = absurd (false≢true h)
    by_test false h = h

pub index-promoted : (s : Index) (k : Pair) (es : List Entry) → IsDistinct same_pair (keys_of es) → IsIndex s es → IsIndex s (promoted (same_pair k) es)
index-promoted s k es d i = (λ p. i.0 p ∙ sym (promoted_cases k p es (lookup_entry (same_pair k) es) refl d), i.1)

again : (k q : Pair) (v : Cell) (cap : ℕ) (es : List Entry) (o : Option Entry) → lookup_entry (same_pair k) es ≡ o → is_listed k es ≡ true → IsDistinct same_pair (keys_of es)
    → is_listed q (option_map_or (λ (e : Entry). (e.0, v) ∷ remove_entry (same_pair k) es) o ((k, v) ∷ take (cap - 1) es)) ≡ is_listed q es
again k q v cap es None h t d = absurd (let f = found_of k es (lookup_entry (same_pair k) es) refl t in let no : Some f.0 ≡ None = sym f.1 ∙ h in cc)
again k q v cap es (Some f) h t d = to_front k q v es f h d

-- a new cell for a listed granule
pub index-again : (s : Index) (cap : ℕ) (k : Pair) (v : Cell) (es : List Entry) → is_listed k es ≡ true → IsDistinct same_pair (keys_of es) → IsIndex s es → IsIndex s (put_entries same_pair (lru_cache es cap) k v)
index-again s cap k v es t d i = (λ p. i.0 p ∙ sym (again k p v cap es (lookup_entry (same_pair k) es) refl t d), i.1)

-- a granule put into the set and taken out again
pub index-back : (s t u : Index) (k : Pair) (es : List Entry) → is_listed k es ≡ false → FitsSigned w64 k.1 → Inserted s t k → Removed t u k → IsIndex s es → IsIndex u es
index-back s t u k es new fits put out i = (λ p. out p ∙ ap (cond (is_eq (pair_cmp k p)) false) (put p) ∙ by_test p (is_eq (pair_cmp k p)) refl, fits_removed t u k out (fits_inserted s t k put fits i.1))
  where
    by_test : (p : Pair) (b : Bool) → is_eq (pair_cmp k p) ≡ b → cond b false (cond b true (contains pair_cmp s p)) ≡ is_listed p es
    by_test p true same = sym new ∙ ap (λ (q : Pair). is_listed q es) (same-true k p (sym (at-same k p) ∙ same))
    by_test p false same = i.0 p

put_listed : (k q : Pair) (v : Cell) (cap : ℕ) (es : List Entry) → is_listed k es ≡ false → is_listed q (put_entries same_pair (lru_cache es cap) k v) ≡ cond (is_eq (pair_cmp k q)) true (is_listed q (take (cap - 1) es))
put_listed k q v cap es new =
    ap (λ o. is_listed q (option_map_or (λ (e : Entry). (e.0, v) ∷ remove_entry (same_pair k) es) o ((k, v) ∷ take (cap - 1) es))) (none_of k es (lookup_entry (same_pair k) es) refl new)
    ∙ listed-cons q (k, v) (take (cap - 1) es)
    ∙ ap (λ b. cond b true (is_listed q (take (cap - 1) es))) (same-flips q k ∙ sym (at-same k q))

-- what leaves for it
pub displaced-new : (cap : ℕ) (k : Pair) (v : Cell) (es : List Entry) → is_listed k es ≡ false → displaced same_pair (lru_cache es cap) k v ≡ slice_get es (cap - 1)
displaced-new cap k v es new =
    let out : lookup (same_pair k) es ≡ None = value_of k es ∙ ap (option_map (λ (e : Entry). e.1)) (none_of k es (lookup_entry (same_pair k) es) refl new) in
    ap (λ (o : Option Cell). option_map_or (λ (old : Cell). Some (k, old)) o (slice_get es (cap - 1))) out

-- a new granule where there is room
pub index-new : (s t : Index) (cap : ℕ) (k : Pair) (v : Cell) (es : List Entry) → is_listed k es ≡ false → FitsSigned w64 k.1 → Inserted s t k → slice_get es (cap - 1) ≡ None → IsIndex s es → IsIndex t (put_entries same_pair (lru_cache es cap) k v)
index-new s t cap k v es new fits put room i = (
  λ p. put p
      ∙ ap (cond (is_eq (pair_cmp k p)) true) (i.0 p ∙ ap (is_listed p) (sym (take-none (cap - 1) es room)))
      ∙ sym (put_listed k p v cap es new),
  fits_inserted s t k put fits i.1,
)

-- the same where the list is full
pub index-drop : (s t u : Index) (cap : ℕ) (k : Pair) (v : Cell) (es : List Entry) (e : Entry) → is_listed k es ≡ false → FitsSigned w64 k.1 → Inserted s t k → Removed t u e.0 → slice_get es (cap - 1) ≡ Some e → length es ≤ cap → 0 < cap → IsDistinct same_pair (keys_of es) → IsIndex s es
    → IsIndex u (put_entries same_pair (lru_cache es cap) k v)
index-drop s t u cap k v es e new fits put out last bound some d i = (
  λ p. out p ∙ ap (cond (is_eq (pair_cmp e.0 p)) false) (put p ∙ ap (cond (is_eq (pair_cmp k p)) true) (i.0 p)) ∙ by_test p (is_eq (pair_cmp k p)) refl
      ∙ sym (put_listed k p v cap es new),
  fits_removed t u e.0 out (fits_inserted s t k put fits i.1),
)
  where
    shorter : (p : Pair) → is_listed p (take (cap - 1) es) ≡ cond (is_eq (pair_cmp e.0 p)) false (is_listed p es)
    shorter p = listed-take p (cap - 1) es e last (omega arith) d ∙ ap (λ b. cond b false (is_listed p es)) (sym (at-same e.0 p))

    apart : same_pair e.0 k ≡ false
    apart = other_than e.0 k es (listed_at (cap - 1) es e last) new

    by_test : (p : Pair) (b : Bool) → is_eq (pair_cmp k p) ≡ b → cond (is_eq (pair_cmp e.0 p)) false (cond b true (is_listed p es)) ≡ cond b true (is_listed p (take (cap - 1) es))
    by_test p true same = ap (λ b. cond b false true) (at-same e.0 p ∙ ap (same_pair e.0) (sym (same-true k p (sym (at-same k p) ∙ same))) ∙ apart)
    by_test p false same = sym (shorter p)

-- ---- the granules of an object

-- the first one from the least on
pub first-own : (s : Index) (r rest : List Pair) (first : Pair) (object : ℕ) (z : ℤ) → IsKeyRangeOf pair_cmp (Included (object, to_z w64 9223372036854775808)) Unbounded s r → r ≡ first ∷ rest → FitsSigned w64 z → contains pair_cmp s (object, z) ≡ true
    → first.0 ≡ object
first-own s r rest first object z part split fits has =
    let whole = subst (IsKeyRangeOf pair_cmp (Included (object, to_z w64 9223372036854775808)) Unbounded s) split part in
    between-own object first (to_z w64 9223372036854775808) z whole.1.0.0 (whole.2 (object, z) (from-least object z fits, tt) has)

-- one of them is taken out
pub index-less : (s t : Index) (k : Pair) (es : List Entry) → Removed s t k → IsDistinct same_pair (keys_of es) → IsIndex s es → IsIndex t (remove_entry (same_pair k) es)
index-less s t k es out d i =
    (λ p. out p ∙ ap (cond (is_eq (pair_cmp k p)) false) (i.0 p) ∙ ap (λ b. cond b false (is_listed p es)) (at-same k p) ∙ sym (listed-removed k p es d), fits_removed s t k out i.1)

pub others-removed : (k : Pair) (es : List Entry) → others k.0 (remove_entry (same_pair k) es) ≡ others k.0 es
others-removed k [] = refl
others-removed k (e ∷ es) = by_test (same_pair k e.0) refl (others-removed k es)
  where
    by_test : (b : Bool) → same_pair k e.0 ≡ b → others k.0 (remove_entry (same_pair k) es) ≡ others k.0 es → others k.0 (remove_entry (same_pair k) (e ∷ es)) ≡ others k.0 (e ∷ es)
    by_test true same ih =
        let own : (e.0.0 == k.0) ≡ true = eq-eqb e.0.0 k.0 (ap (λ (p : Pair). p.0) (sym (same-true k e.0 same))) in
        rw (same, own) refl
    by_test false same ih = rw same (ap (λ l. cond (is_other k.0 e) (e ∷ l) l) ih)

pub removed-shorter : (k : Pair) (es : List Entry) → is_listed k es ≡ true → length (remove_entry (same_pair k) es) < length es
removed-shorter k es t =
    let f = found_of k es (lookup_entry (same_pair k) es) refl t in
    let less = one_less k es f.0 f.1 in
    omega (arith, less)

-- none is left
pub others-none : (object : ℕ) (es : List Entry) → ((p : Pair) → p.0 ≡ object → is_listed p es ≡ false) → others object es ≡ es
others-none object [] none = refl
others-none object (e ∷ es) none = by_test (e.0.0 == object) refl (others-none object es later)
  where
    by_first : {x : Bool} (b : Bool) → cond b true x ≡ false → x ≡ false
    by_first true h = absurd (false≢true (sym h))
    by_first false h = h

    later : (p : Pair) → p.0 ≡ object → is_listed p es ≡ false
    later p own = by_first (same_pair p e.0) (sym (listed-cons p e es) ∙ none p own)

    by_test : (b : Bool) → (e.0.0 == object) ≡ b → others object es ≡ es → others object (e ∷ es) ≡ e ∷ es
    by_test true own ih = absurd (false≢true (sym (none e.0 (eqb-true e.0.0 object own)) ∙ listed-cons e.0 e es ∙ ap (λ b. cond b true (is_listed e.0 es)) (same-refl e.0)))
    by_test false own ih = rw own (ap (λ l. e ∷ l) ih)

-- the same by the set
pub none-own : (s : Index) (object : ℕ) (es : List Entry) → IsIndex s es → ((z : ℤ) → FitsSigned w64 z → contains pair_cmp s (object, z) ≡ false) → others object es ≡ es
none-own s object es i none = others-none object es (λ p own. sym (i.0 p) ∙ by_test p own (contains pair_cmp s p) refl)
  where
    by_test : (p : Pair) → p.0 ≡ object → (b : Bool) → contains pair_cmp s p ≡ b → contains pair_cmp s p ≡ false
    by_test p own true has = ap (λ n. contains pair_cmp s (n, p.1)) own ∙ none p.1 (i.1 p has)
    by_test p own false has = has

pub listing-others : (object : ℕ) (es : List Entry) → listing (others object es) ≡ surviving_cells (λ o. o == object) (listing es)
listing-others object [] = refl
listing-others object (e ∷ es) = by_test (is_other object e) refl (listing-others object es)
  where
    by_test : (b : Bool) → is_other object e ≡ b → listing (others object es) ≡ surviving_cells (λ o. o == object) (listing es) → listing (others object (e ∷ es)) ≡ surviving_cells (λ o. o == object) (listing (e ∷ es))
    by_test true h ih = rw h (ap (λ l. entry_of e ∷ l) ih)
    by_test false h ih = rw h ih
