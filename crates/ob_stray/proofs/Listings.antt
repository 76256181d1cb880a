-- What the cache does to its entries is what the bounded list does to its own.
use Rattle.std.proofs.Common.{◌≡◌, ◌≤◌, ◌<◌, ◌==◌, ◌&&◌, ◌-◌, ℕ, zero, suc, Bool, true, false, not, List, [], ◌∷◌, length, take, Option, Some, None, is_none, is_some, slice_get, arith, refl, sym, ap, ◌∙◌, subst}
use Rattle.std.proofs.Math.Dec.{eqb-zero-suc, eqb-suc-suc}
use Rattle.std.specs.List.{IsDistinct, AllByRecursion}
use Rattle.std.specs.Option.{option_map, option_map_or}
use Rattle.std.specs.Map.{keys_of, lookup, lookup_entry, remove_entry}
use Rattle.std.proofs.lemmas.Bool.{false≢true}
use Rattle.std.proofs.lemmas.List.{take-map, take_all, length-map}
use Rattle.std.proofs.lemmas.Option.{slice_get-map}
use Rattle.lru.specs.LruCache.{lru_cache, promoted, put_entries, displaced}
use Rattle.ob_model.specs.Bounded.{Listed, is_of, without_granule, listed_cell, moved_to_front, after_load, put_first, after_store, dropped}
use Rattle.ob_model.specs.Descriptors.{Pair, same_pair}
use Rattle.ob_model.specs.declared.values.Cell.{Cell}
use Rattle.ob_stray.specs.Kept.{Entry, entry_of, listing}
use Rattle.ob_stray.specs.Store.{as_dropped}
use Rattle.ob_stray.proofs.Keys.{same-true, same-flips}

-- no entry is of this granule
abbrev pub IsAbsent : Pair → List Entry → Type 0
IsAbsent k es = AllByRecursion (λ y. same_pair k y ≡ false) (keys_of es)

flipped : (k : Pair) (e : Entry) (b : Bool) → same_pair k e.0 ≡ b → is_of k.0 k.1 (entry_of e) ≡ b
flipped k e b h = sym (same-flips k e.0) ∙ h

-- ---- look-ups

pub cell_of : (k : Pair) (es : List Entry) → listed_cell k.0 k.1 (listing es) ≡ lookup (same_pair k) es
cell_of k [] = refl
cell_of k (e ∷ es) = by_test (same_pair k e.0) refl (cell_of k es)
  where
    by_test : (b : Bool) → same_pair k e.0 ≡ b → listed_cell k.0 k.1 (listing es) ≡ lookup (same_pair k) es → listed_cell k.0 k.1 (listing (e ∷ es)) ≡ lookup (same_pair k) (e ∷ es)
    by_test true h ih = rw (h, flipped k e true h) refl
    by_test false h ih = rw (h, flipped k e false h) ih

pub value_of : (k : Pair) (es : List Entry) → lookup (same_pair k) es ≡ option_map (λ (e : Entry). e.1) (lookup_entry (same_pair k) es)
value_of k [] = refl
value_of k (e ∷ es) = by_test (same_pair k e.0) refl (value_of k es)
  where
    by_test : (b : Bool) → same_pair k e.0 ≡ b → lookup (same_pair k) es ≡ option_map (λ (e : Entry). e.1) (lookup_entry (same_pair k) es) → lookup (same_pair k) (e ∷ es) ≡ option_map (λ (e : Entry). e.1) (lookup_entry (same_pair k) (e ∷ es))
    by_test true h ih = rw h refl
    by_test false h ih = rw h ih

-- the entry that is found is of the granule
pub key_of : (k : Pair) (es : List Entry) (f : Entry) → lookup_entry (same_pair k) es ≡ Some f → k ≡ f.0
key_of k [] f h = cc
key_of k (e ∷ es) f h = by_test (same_pair k e.0) refl (key_of k es f)
  where
    by_test : (b : Bool) → same_pair k e.0 ≡ b → (lookup_entry (same_pair k) es ≡ Some f → k ≡ f.0) → k ≡ f.0
    by_test true t ih = let h' = rw t at h in let same : e ≡ f = cc in same-true k e.0 t ∙ ap (λ (g : Entry). g.0) same
    by_test false t ih = ih (rw t at h)

absent : (k : Pair) (es : List Entry) → lookup_entry (same_pair k) es ≡ None → IsAbsent k es
absent k [] h = tt
absent k (e ∷ es) h = by_test (same_pair k e.0) refl (absent k es)
  where
    by_test : (b : Bool) → same_pair k e.0 ≡ b → (lookup_entry (same_pair k) es ≡ None → IsAbsent k es) → IsAbsent k (e ∷ es)
    by_test true t ih = let h' = rw t at h in cc
    by_test false t ih = (t, ih (rw t at h))

-- ---- without a granule

untouched : (k : Pair) (es : List Entry) → IsAbsent k es → without_granule k.0 k.1 (listing es) ≡ listing es
untouched k [] a = refl
untouched k (e ∷ es) a = rw (flipped k e false a.0) (ap (λ l. entry_of e ∷ l) (untouched k es a.1))

pub without_is : (k : Pair) (es : List Entry) → IsDistinct same_pair (keys_of es) → without_granule k.0 k.1 (listing es) ≡ listing (remove_entry (same_pair k) es)
unfolding IsDistinct
without_is k [] d = refl
without_is k (e ∷ es) d = by_test (same_pair k e.0) refl (without_is k es d.1)
  where
    by_test : (b : Bool) → same_pair k e.0 ≡ b → without_granule k.0 k.1 (listing es) ≡ listing (remove_entry (same_pair k) es) → without_granule k.0 k.1 (listing (e ∷ es)) ≡ listing (remove_entry (same_pair k) (e ∷ es))
    by_test true h ih =
        let same : e.0 ≡ k = sym (same-true k e.0 h) in
        let apart : IsAbsent k es = subst (λ (p : Pair). IsAbsent p es) same d.0 in
        rw (h, flipped k e true h) (untouched k es apart)
    by_test false h ih = rw (h, flipped k e false h) (ap (λ l. entry_of e ∷ l) ih)

pub one_less : (k : Pair) (es : List Entry) (f : Entry) → lookup_entry (same_pair k) es ≡ Some f → suc (length (remove_entry (same_pair k) es)) ≡ length es
one_less k [] f h = cc
one_less k (e ∷ es) f h = by_test (same_pair k e.0) refl (one_less k es f)
  where
    by_test : (b : Bool) → same_pair k e.0 ≡ b → (lookup_entry (same_pair k) es ≡ Some f → suc (length (remove_entry (same_pair k) es)) ≡ length es) → suc (length (remove_entry (same_pair k) (e ∷ es))) ≡ length (e ∷ es)
    by_test true t ih = rw t refl
    by_test false t ih = rw t (ap suc (ih (rw t at h)))

-- ---- a load

abbrev moved : Pair → List Entry → Option Entry → List (Listed Cell)
moved k es o = moved_to_front (option_map (λ (e : Entry). e.1) o) k.0 k.1 (listing es)

to_front : (k : Pair) (es : List Entry) (o : Option Entry) → lookup_entry (same_pair k) es ≡ o → IsDistinct same_pair (keys_of es) → listing (option_map_or (λ (e : Entry). e ∷ remove_entry (same_pair k) es) o es) ≡ moved k es o
to_front k es None h d = refl
to_front k es (Some f) h d =
    let named : Pair → Listed Cell = λ p. record { object = p.0; granule = p.1; cell = f.1 } in
    let head : entry_of f ≡ named k = ap named (sym (key_of k es f h)) in
    ap (λ l. entry_of f ∷ l) (sym (without_is k es d)) ∙ ap (λ (x : Listed Cell). x ∷ without_granule k.0 k.1 (listing es)) head

pub promoted_is : (k : Pair) (es : List Entry) → IsDistinct same_pair (keys_of es) → listing (promoted (same_pair k) es) ≡ after_load k.0 k.1 (listing es)
promoted_is k es d =
    to_front k es (lookup_entry (same_pair k) es) refl d
    ∙ ap (λ (c : Option Cell). moved_to_front c k.0 k.1 (listing es)) (sym (cell_of k es ∙ value_of k es))

-- ---- a store

put_new : (bound : ℕ) (k : Pair) (v : Cell) (es : List Entry) → 0 < bound → IsAbsent k es → listing ((k, v) ∷ take (bound - 1) es) ≡ after_store bound k.0 k.1 v (listing es)
put_new zero k v es p a = absurd (omega arith)
put_new (suc bound) k v es p a = let less : suc bound - 1 ≡ bound = omega arith in ap (λ n. listing ((k, v) ∷ take n es)) less ∙ ap (λ l. entry_of (k, v) ∷ l) (sym (take-map entry_of bound es) ∙ ap (take bound) (sym (untouched k es a)))

put_cases : (bound : ℕ) (k : Pair) (v : Cell) (es : List Entry) (o : Option Entry) → lookup_entry (same_pair k) es ≡ o → IsDistinct same_pair (keys_of es) → length es ≤ bound → 0 < bound → listing (option_map_or (λ (e : Entry). (e.0, v) ∷ remove_entry (same_pair k) es) o ((k, v) ∷ take (bound - 1) es)) ≡ after_store bound k.0 k.1 v (listing es)
put_cases bound k v es None h d fits p = put_new bound k v es p (absent k es h)
put_cases bound k v es (Some f) h d fits p =
    let named : Pair → Listed Cell = λ q. record { object = q.0; granule = q.1; cell = v } in
    let rest = remove_entry (same_pair k) es in
    let whole : listing ((k, v) ∷ rest) ≡ put_first k.0 k.1 v (listing es) = ap (λ l. entry_of (k, v) ∷ l) (sym (without_is k es d)) in
    let count : length (listing ((k, v) ∷ rest)) ≡ length es = length-map ((k, v) ∷ rest) entry_of ∙ one_less k es f h in
    ap (λ (q : Pair). named q ∷ listing rest) (sym (key_of k es f h))
    ∙ sym (take_all bound (listing ((k, v) ∷ rest)) (omega (arith, count, fits)))
    ∙ ap (take bound) whole

pub put_is : (bound : ℕ) (k : Pair) (v : Cell) (es : List Entry) → IsDistinct same_pair (keys_of es) → length es ≤ bound → 0 < bound → listing (put_entries same_pair (lru_cache es bound) k v) ≡ after_store bound k.0 k.1 v (listing es)
put_is bound k v es = put_cases bound k v es (lookup_entry (same_pair k) es) refl

-- ---- the entry that leaves

past : {A : Type 0} (n : ℕ) (xs : List A) → length xs ≤ n → slice_get xs n ≡ None
past n [] h = refl
past zero (x ∷ xs) h = absurd (omega arith)
past (suc n) (x ∷ xs) h = past n xs (omega arith)

last : {A : Type 0} (n : ℕ) (xs : List A) → length xs ≤ suc n → is_some (slice_get xs n) ≡ (length xs == suc n)
last n [] h = sym (eqb-zero-suc n)
last zero (x ∷ []) h = refl
last zero (x ∷ y ∷ xs) h = absurd (omega arith)
last (suc n) (x ∷ xs) h = last n xs (omega arith) ∙ sym (eqb-suc-suc (length xs) (suc n))

-- a listed granule's store makes nothing leave
pub keeps_all : (bound : ℕ) (k : Pair) (v : Cell) (es : List Entry) (f : Entry) → lookup_entry (same_pair k) es ≡ Some f → IsDistinct same_pair (keys_of es) → length es ≤ bound → dropped bound k.0 k.1 v (listing es) ≡ None
keeps_all bound k v es f h d fits =
    let rest = remove_entry (same_pair k) es in
    let count : length (listing ((k, v) ∷ rest)) ≡ length es = length-map ((k, v) ∷ rest) entry_of ∙ one_less k es f h in
    ap (λ l. slice_get (entry_of (k, v) ∷ l) bound) (without_is k es d) ∙ past bound (listing ((k, v) ∷ rest)) (omega (arith, count, fits))

-- a new one's makes the last of a full list leave
drops_last : (bound : ℕ) (k : Pair) (v : Cell) (es : List Entry) → lookup_entry (same_pair k) es ≡ None → 0 < bound → dropped bound k.0 k.1 v (listing es) ≡ option_map entry_of (slice_get es (bound - 1))
drops_last zero k v es h p = absurd (omega arith)
drops_last (suc bound) k v es h p = let less : suc bound - 1 ≡ bound = omega arith in ap (λ l. slice_get l bound) (untouched k es (absent k es h)) ∙ slice_get-map entry_of es bound ∙ ap (λ n. option_map entry_of (slice_get es n)) (sym less)

-- ---- what a store answers

option_map_map : {A B C : Type 0} (f : A → B) (g : B → C) (o : Option A) → option_map (λ x. g (f x)) o ≡ option_map g (option_map f o)
option_map_map f g None = refl
option_map_map f g (Some x) = refl

is_some_map : {A B : Type 0} (f : A → B) (o : Option A) → is_some (option_map f o) ≡ is_some o
is_some_map f None = refl
is_some_map f (Some x) = refl

pub is_none_cell : (k : Pair) (es : List Entry) → is_none (listed_cell k.0 k.1 (listing es)) ≡ not (is_some (lookup (same_pair k) es))
is_none_cell k es = ap is_none (cell_of k es) ∙ by_test (lookup (same_pair k) es)
  where
    by_test : (o : Option Cell) → is_none o ≡ not (is_some o)
    by_test None = refl
    by_test (Some c) = refl

pub found_of : (k : Pair) (es : List Entry) (o : Option Entry) → lookup_entry (same_pair k) es ≡ o → is_some (lookup (same_pair k) es) ≡ true → (f : Entry) × (lookup_entry (same_pair k) es ≡ Some f)
found_of k es None h t = absurd (let u = ap is_some (value_of k es ∙ ap (option_map (λ (e : Entry). e.1)) h) in false≢true (sym u ∙ t))
found_of k es (Some f) h t = (f, h)

pub none_of : (k : Pair) (es : List Entry) (o : Option Entry) → lookup_entry (same_pair k) es ≡ o → is_some (lookup (same_pair k) es) ≡ false → lookup_entry (same_pair k) es ≡ None
none_of k es None h t = h
none_of k es (Some f) h t = absurd (let u = ap is_some (value_of k es ∙ ap (option_map (λ (e : Entry). e.1)) h) in false≢true (sym t ∙ u))

-- what an answer says of a listed granule, and of a new one
pub answer_listed : (bound : ℕ) (k : Pair) (v : Cell) (es : List Entry) → is_some (lookup (same_pair k) es) ≡ true → IsDistinct same_pair (keys_of es) → length es ≤ bound
    → None ≡ option_map as_dropped (dropped bound k.0 k.1 v (listing es))
answer_listed bound k v es t d fits =
    let f = found_of k es (lookup_entry (same_pair k) es) refl t in
    sym (ap (option_map as_dropped) (keeps_all bound k v es f.0 f.1 d fits))

pub answer_new : (bound : ℕ) (k : Pair) (v : Cell) (es : List Entry) → is_some (lookup (same_pair k) es) ≡ false → 0 < bound
    → option_map (λ e. as_dropped (entry_of e)) (displaced same_pair (lru_cache es bound) k v) ≡ option_map as_dropped (dropped bound k.0 k.1 v (listing es))
answer_new bound k v es t p =
    let h = none_of k es (lookup_entry (same_pair k) es) refl t in
    let out : lookup (same_pair k) es ≡ None = value_of k es ∙ ap (option_map (λ (e : Entry). e.1)) h in
    ap (λ (o : Option Cell). option_map (λ (e : Entry). as_dropped (entry_of e)) (option_map_or (λ (old : Cell). Some (k, old)) o (slice_get es (bound - 1)))) out
    ∙ option_map_map entry_of as_dropped (slice_get es (bound - 1))
    ∙ ap (option_map as_dropped) (sym (drops_last bound k v es h p))

pub exact_new : (bound : ℕ) (k : Pair) (v : Cell) (es : List Entry) → is_some (lookup (same_pair k) es) ≡ false → length es ≤ bound → 0 < bound
    → is_some (option_map as_dropped (dropped bound k.0 k.1 v (listing es))) ≡ (is_none (listed_cell k.0 k.1 (listing es)) && (length (listing es) == bound))
exact_new zero k v es t fits p = absurd (omega arith)
exact_new (suc bound) k v es t fits p =
    let h = none_of k es (lookup_entry (same_pair k) es) refl t in
    let less : suc bound - 1 ≡ bound = omega arith in
    let out : is_none (listed_cell k.0 k.1 (listing es)) ≡ true = is_none_cell k es ∙ ap not t in
    is_some_map as_dropped (dropped (suc bound) k.0 k.1 v (listing es))
    ∙ ap is_some (drops_last (suc bound) k v es h p)
    ∙ is_some_map entry_of (slice_get es (suc bound - 1))
    ∙ ap (λ n. is_some (slice_get es n)) less
    ∙ last bound es fits
    ∙ ap (λ n. n == suc bound) (sym (length-map es entry_of))
    ∙ ap (λ b. b && (length (listing es) == suc bound)) (sym out)

pub exact_listed : (bound : ℕ) (k : Pair) (es : List Entry) → is_some (lookup (same_pair k) es) ≡ true
    → false ≡ (is_none (listed_cell k.0 k.1 (listing es)) && (length (listing es) == bound))
exact_listed bound k es t = ap (λ b. b && (length (listing es) == bound)) (sym (is_none_cell k es ∙ ap not t))
