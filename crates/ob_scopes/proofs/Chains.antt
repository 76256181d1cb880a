-- A symbol table's entries, of which the newest is put in front or taken away.
use Rattle.std.proofs.Common.{◌≡◌, ℕ, zero, suc, ◌+◌, ◌<◌, ◌≤◌, Option, Some, None, List, [], ◌∷◌, ◌++◌, length, map, reverse, drop, length-drop, refl, sym, ap, subst, ◌∙◌, arith, ⊎_elim, if◌then◌else◌}
use Rattle.std.specs.Prelude.{slice_get, option_map}
use Rattle.std.specs.Str.{bytes_eq}
use Rattle.std.proofs.lemmas.Bool.{cases_Bool, cond-true, cond-false}
use Rattle.std.proofs.lemmas.Slice.Eq.{bytes_eq-Decides}
use Rattle.std.proofs.lemmas.List.{reverse-append, reverse-reverse, length-reverse}
use Rattle.ob_scopes.specs.declared.entries.Entry.{Entry}
use Rattle.ob_scopes.specs.Newest.{Newest, place_in, Places, Same}
use Rattle.ob_scopes.specs.Bindings.{bound, left, with_binding}
use Rattle.ob_scopes.specs.Kept.{IsIndexed, bindings_of, outers, place_of, scopes_of, total, value_at}

module _ {T : Type 0} where
  pub indexed-more : (old new : Newest) (es : List (Entry T)) (e : Entry T) → IsIndexed old es → e.before ≡ place_of e.name es → Places old new e.name (Some (length es)) → IsIndexed new (e ∷ es)
  indexed-more old new es e k b p = record {
    places = λ x. p x ∙ ap (λ o. if bytes_eq e.name x then Some (length es) else o) (k.places x);
    links = ap (λ o. o ∷ map (λ (d : Entry T). d.before) es) b ∙ ap (λ l. place_of e.name es ∷ l) k.links;
  }

  -- where names agree, what an entry hides is what is found behind it
  unhidden : (es : List (Entry T)) (e : Entry T) (x : List ℕ) (o : Option ℕ) → e.before ≡ place_of e.name es → o ≡ place_of x (e ∷ es) → (if bytes_eq e.name x then e.before else o) ≡ place_of x es
  unhidden es e x o b is =
      ⊎_elim
      (λ y. cond-true (bytes_eq e.name x) e.before o y ∙ b ∙ ap (λ n. place_of n es) ((bytes_eq-Decides e.name x).0 y))
      (λ n. cond-false (bytes_eq e.name x) e.before o n ∙ is ∙ cond-false (bytes_eq e.name x) (Some (length es)) (place_of x es) n)
      (cases_Bool (bytes_eq e.name x))

  pub indexed-less : (old new : Newest) (es : List (Entry T)) (e : Entry T) → IsIndexed old (e ∷ es) → Places old new e.name e.before → IsIndexed new es
  indexed-less old new es e k p =
      let b : e.before ≡ place_of e.name es = (let l = k.links in cc) in
      record {
        places = λ x. p x ∙ unhidden es e x (place_in old x) b (k.places x);
        links = (let l = k.links in cc);
      }

  pub indexed-same : (old new : Newest) (es : List (Entry T)) → IsIndexed old es → Same old new → IsIndexed new es
  indexed-same old new es k s = record { places = λ x. s x ∙ k.places x; links = k.links }

  get-front : (xs ys : List (Entry T)) (i : ℕ) → i < length xs → slice_get (xs ++ ys) i ≡ slice_get xs i
  get-front [] ys i h = absurd (omega arith)
  get-front (x ∷ xs) ys zero h = refl
  get-front (x ∷ xs) ys (suc i) h = get-front xs ys i (omega arith)

  get-seam : (xs : List (Entry T)) (y : Entry T) → slice_get (xs ++ y ∷ []) (length xs) ≡ Some y
  get-seam [] y = refl
  get-seam (x ∷ xs) y = get-seam xs y

  place-below : (name : List ℕ) (es : List (Entry T)) (i : ℕ) → place_of name es ≡ Some i → i < length es
  place-below name [] i h = absurd cc
  place-below name (e ∷ es) i h =
      ⊎_elim
      (λ y. let s : Some (length es) ≡ Some i = sym (cond-true (bytes_eq e.name name) (Some (length es)) (place_of name es) y) ∙ h in
      let q : length es ≡ i = cc in omega arith)
      (λ n. let q = place-below name es i (sym (cond-false (bytes_eq e.name name) (Some (length es)) (place_of name es) n) ∙ h) in omega arith)
      (cases_Bool (bytes_eq e.name name))

  pub found : (name : List ℕ) (es : List (Entry T)) (i : ℕ) → place_of name es ≡ Some i → bound name (bindings_of es) ≡ value_at (reverse es) i
  found name [] i h = absurd cc
  found name (e ∷ es) i h =
      ⊎_elim
      (λ y. let s : Some (length es) ≡ Some i = sym (cond-true (bytes_eq e.name name) (Some (length es)) (place_of name es) y) ∙ h in
      let q : length (reverse es) ≡ i = length-reverse es ∙ cc in
      cond-true (bytes_eq e.name name) (Some e.value) (bound name (bindings_of es)) y
      ∙ sym (ap (option_map (λ (d : Entry T). d.value)) (ap (λ l. slice_get l i) (reverse-append (e ∷ []) es) ∙ ap (slice_get (reverse es ++ e ∷ [])) (sym q) ∙ get-seam (reverse es) e)))
      (λ n. let s : place_of name es ≡ Some i = sym (cond-false (bytes_eq e.name name) (Some (length es)) (place_of name es) n) ∙ h in
      let b : i < length (reverse es) = (let q = place-below name es i s in omega (arith, length-reverse es)) in
      cond-false (bytes_eq e.name name) (Some e.value) (bound name (bindings_of es)) n ∙ found name es i s
      ∙ sym (ap (option_map (λ (d : Entry T). d.value)) (ap (λ l. slice_get l i) (reverse-append (e ∷ []) es) ∙ get-front (reverse es) (e ∷ []) i b)))
      (cases_Bool (bytes_eq e.name name))

  pub unfound : (name : List ℕ) (es : List (Entry T)) → place_of name es ≡ None → bound name (bindings_of es) ≡ None
  unfound name [] h = refl
  unfound name (e ∷ es) h =
      ⊎_elim
      (λ y. let s : Some (length es) ≡ None = sym (cond-true (bytes_eq e.name name) (Some (length es)) (place_of name es) y) ∙ h in absurd cc)
      (λ n. cond-false (bytes_eq e.name name) (Some e.value) (bound name (bindings_of es)) n ∙ unfound name es (sym (cond-false (bytes_eq e.name name) (Some (length es)) (place_of name es) n) ∙ h))
      (cases_Bool (bytes_eq e.name name))

  -- what the map leads to, where the entries stand the oldest first
  pub found-at : (newest : Newest) (items : List (Entry T)) (name : List ℕ) (i : ℕ) → IsIndexed newest (reverse items) → Some i ≡ place_in newest name → bound name (bindings_of (reverse items)) ≡ value_at items i
  found-at newest items name i k s = found name (reverse items) i (sym (k.places name) ∙ sym s) ∙ ap (λ l. value_at l i) (reverse-reverse items)

  pub unfound-at : (newest : Newest) (items : List (Entry T)) (name : List ℕ) → IsIndexed newest (reverse items) → None ≡ place_in newest name → bound name (bindings_of (reverse items)) ≡ None
  unfound-at newest items name k s = unfound name (reverse items) (sym (k.places name) ∙ sym s)

  -- the newest entry is taken away, and its name leads to the one that it hid
  pub taken : (old new : Newest) (items rest : List (Entry T)) (e : Entry T) (name : List ℕ) → items ≡ rest ++ e ∷ [] → IsIndexed old (reverse items) → name ≡ e.name → Places old new name e.before → IsIndexed new (reverse rest)
  taken old new items rest e name is k n p =
      indexed-less old new (reverse rest) e (subst (λ (es : List (Entry T)). IsIndexed old es) (ap reverse is ∙ reverse-append rest (e ∷ [])) k) (subst (λ x. Places old new x e.before) n p)

  pub length-outers : (here : ℕ) (around : List ℕ) (es : List (Entry T)) → length (outers here around es) ≡ length around
  length-outers here [] es = refl
  length-outers here (n ∷ ns) es = ap suc (length-outers n ns (drop here es))

  drop-suc : (n : ℕ) (es : List (Entry T)) → drop (suc n) es ≡ drop 1 (drop n es)
  drop-suc zero es = refl
  drop-suc (suc n) [] = refl
  drop-suc (suc n) (e ∷ es) = drop-suc n es

  pub drop_one : (n : ℕ) (es : List (Entry T)) → drop 1 (drop n es) ≡ drop (n + 1) es
  drop_one n es = let s : suc n ≡ n + 1 = omega arith in sym (drop-suc n es) ∙ ap (λ k. drop k es) s

  -- ---- a whole table: one more entry in the innermost block, and a block that is left

  outers-more : (here : ℕ) (around : List ℕ) (e : Entry T) (es : List (Entry T)) → outers (here + 1) around (e ∷ es) ≡ outers here around es
  outers-more here [] e es = refl
  outers-more here (n ∷ ns) e es =
      let s : here + 1 ≡ suc here = omega arith in
      ap (λ k. bindings_of (drop k (e ∷ es)) ∷ outers n ns (drop k (e ∷ es))) s

  pub scopes_more : (here : ℕ) (around : List ℕ) (e : Entry T) (es longer : List (Entry T)) → longer ≡ e ∷ es → scopes_of (here + 1) around longer ≡ with_binding (e.name, e.value) (scopes_of here around es)
  scopes_more here around e es longer is =
      ap (scopes_of (here + 1) around) is ∙ ap (λ os. record { bindings = bindings_of (e ∷ es); outer = os }) (outers-more here around e es)

  pub within_more : (here : ℕ) (around : List ℕ) (e : Entry T) (es longer : List (Entry T)) → longer ≡ e ∷ es → here + total around ≤ length es → (here + 1) + total around ≤ length longer
  within_more here around e es longer is h = omega (arith, ap length is)

  pub scopes_left : (here n : ℕ) (around rest : List ℕ) (es fewer : List (Entry T)) → around ≡ rest ++ n ∷ [] → fewer ≡ drop here es → scopes_of n (reverse rest) fewer ≡ left (scopes_of here (reverse around) es)
  scopes_left here n around rest es fewer is e =
      ap (scopes_of n (reverse rest)) e ∙ sym (ap (λ a. left (scopes_of here a es)) (ap reverse is ∙ reverse-append rest (n ∷ [])))

  pub within_left : (here n : ℕ) (around rest : List ℕ) (es fewer : List (Entry T)) → around ≡ rest ++ n ∷ [] → fewer ≡ drop here es → here + total (reverse around) ≤ length es → n + total (reverse rest) ≤ length fewer
  within_left here n around rest es fewer is e h =
      let s : total (reverse around) ≡ n + total (reverse rest) = ap total (ap reverse is ∙ reverse-append rest (n ∷ [])) in
      omega (arith, s, ap length e, length-drop here es)

  -- no block is open
  pub scopes_none : (here : ℕ) (around rest : List ℕ) (es : List (Entry T)) → around ≡ rest ++ [] → length around ≡ 0 → scopes_of here (reverse rest) es ≡ left (scopes_of here (reverse around) es)
  scopes_none here [] [] es is h = refl
  scopes_none here [] (n ∷ rest) es is h = absurd cc
  scopes_none here (n ∷ around) rest es is h = absurd (omega (arith, h))
