-- The list of contents changes as the list of cells does.
use Rattle.std.proofs.Common.{◌≡◌, ℕ, zero, suc, ◌==◌, ◌&&◌, Bool, true, false, not, cond, ℤ, List, [], ◌∷◌, map, take, Option, Some, None, ap, sym, subst, ◌∙◌, refl, ⊎_elim}
use Rattle.std.specs.Prelude.{unwrap_or, IsSome}
use Rattle.std.specs.List.{filter, find}
use Rattle.std.specs.Option.{option_map}
use Rattle.std.specs.Ordering.{int_eq}
use Rattle.std.specs.Cmp.{signed_Decides}
use Rattle.std.proofs.lemmas.Bool.{and_from, cases_Bool, cond-false, cond-true, eq-eqb}
use Rattle.ob_model.specs.declared.values.Cell.{Cell}
use Rattle.ob_model.specs.declared.values.LoadKind.{LoadKind}
use Rattle.ob_model.specs.Bounded.{Listed, after_load, after_store, is_of, listed_cell, moved_to_front, put_first, surviving_cells, without_granule}
use Rattle.ob_model.specs.Cells.{Content, content, unset}
use Rattle.ob_code.specs.Accesses.{write_cell}
use Rattle.ob_outside.specs.Granules.{contents, listed_content}

-- ---- each change

found_if : (b : Bool) (c : Listed Cell) (x : Option (Listed (Content ℕ))) (y : Option (Listed Cell)) → option_map (λ (e : Listed (Content ℕ)). e.cell) x ≡ option_map content (option_map (λ (e : Listed Cell). e.cell) y) → option_map (λ (e : Listed (Content ℕ)). e.cell) (cond b (Some (listed_content c)) x) ≡ option_map content (option_map (λ (e : Listed Cell). e.cell) (cond b (Some c) y))
found_if true c x y h = refl
found_if false c x y h = h

pub found_mapped : (object : ℕ) (granule : ℤ) (cells : List (Listed Cell)) → listed_cell object granule (contents cells) ≡ option_map content (listed_cell object granule cells)
found_mapped object granule [] = refl
found_mapped object granule (c ∷ cells) = found_if (is_of object granule c) c (find (is_of object granule) (contents cells)) (find (is_of object granule) cells) (found_mapped object granule cells)

kept_if : (b : Bool) (c : Listed Cell) (xs : List (Listed (Content ℕ))) (ys : List (Listed Cell)) → xs ≡ contents ys → cond b (listed_content c ∷ xs) xs ≡ contents (cond b (c ∷ ys) ys)
kept_if true c xs ys h = ap (λ (zs : List (Listed (Content ℕ))). listed_content c ∷ zs) h
kept_if false c xs ys h = h

pub without_mapped : (object : ℕ) (granule : ℤ) (cells : List (Listed Cell)) → without_granule object granule (contents cells) ≡ contents (without_granule object granule cells)
without_mapped object granule [] = refl
without_mapped object granule (c ∷ cells) =
    kept_if (not (is_of object granule c)) c (without_granule object granule (contents cells)) (without_granule object granule cells) (without_mapped object granule cells)

pub surviving_mapped : (leaves : ℕ → Bool) (cells : List (Listed Cell)) → surviving_cells leaves (contents cells) ≡ contents (surviving_cells leaves cells)
surviving_mapped leaves [] = refl
surviving_mapped leaves (c ∷ cells) =
    kept_if (not (leaves c.object)) c (surviving_cells leaves (contents cells)) (surviving_cells leaves cells) (surviving_mapped leaves cells)

moved_mapped : (x : Option Cell) (object : ℕ) (granule : ℤ) (cells : List (Listed Cell)) → contents (moved_to_front x object granule cells) ≡ moved_to_front (option_map content x) object granule (contents cells)
moved_mapped None object granule cells = refl
moved_mapped (Some c) object granule cells =
    ap (λ (es : List (Listed (Content ℕ))). record { object = object; granule = granule; cell = content c } ∷ es) (sym (without_mapped object granule cells))

pub load_mapped : (object : ℕ) (granule : ℤ) (cells : List (Listed Cell)) → contents (after_load object granule cells) ≡ after_load object granule (contents cells)
load_mapped object granule cells =
    moved_mapped (listed_cell object granule cells) object granule cells
    ∙ ap (λ (x : Option (Content ℕ)). moved_to_front x object granule (contents cells)) (sym (found_mapped object granule cells))

take_mapped : (n : ℕ) (cells : List (Listed Cell)) → contents (take n cells) ≡ take n (contents cells)
take_mapped zero cells = refl
take_mapped (suc n) [] = refl
take_mapped (suc n) (c ∷ cells) = ap (λ (es : List (Listed (Content ℕ))). listed_content c ∷ es) (take_mapped n cells)

pub store_mapped : (cap object : ℕ) (granule : ℤ) (cell : Cell) (cells : List (Listed Cell)) → contents (after_store cap object granule cell cells) ≡ after_store cap object granule (content cell) (contents cells)
store_mapped cap object granule cell cells =
    take_mapped cap (put_first object granule cell cells)
    ∙ ap (λ (es : List (Listed (Content ℕ))). take cap (record { object = object; granule = granule; cell = content cell } ∷ es)) (sym (without_mapped object granule cells))

-- ---- a load, and then a store at the same granule

twice : (p : Listed Cell → Bool) (cells : List (Listed Cell)) → filter p (filter p cells) ≡ filter p cells
twice p [] = refl
twice p (c ∷ cells) =
    ⊎_elim
    (λ stays.
    let here : filter p (c ∷ cells) ≡ c ∷ filter p cells = cond-true (p c) (c ∷ filter p cells) (filter p cells) stays in
    ap (filter p) here
    ∙ cond-true (p c) (c ∷ filter p (filter p cells)) (filter p (filter p cells)) stays
    ∙ ap (λ (es : List (Listed Cell)). c ∷ es) (twice p cells)
    ∙ sym here)
    (λ leaves.
    let here : filter p (c ∷ cells) ≡ filter p cells = cond-false (p c) (c ∷ filter p cells) (filter p cells) leaves in
    ap (filter p) here ∙ twice p cells ∙ sym here)
    (cases_Bool (p c))

itself : (object : ℕ) (granule : ℤ) → ((object == object) && int_eq granule granule) ≡ true
itself object granule = and_from (object == object) (int_eq granule granule) (eq-eqb object object refl) ((signed_Decides granule granule).1 refl)

without_moved : (x : Option Cell) (object : ℕ) (granule : ℤ) (cells : List (Listed Cell)) → without_granule object granule (moved_to_front x object granule cells) ≡ without_granule object granule cells
without_moved None object granule cells = refl
without_moved (Some c) object granule cells =
    cond-false (not ((object == object) && int_eq granule granule)) (record { object = object; granule = granule; cell = c } ∷ without_granule object granule (without_granule object granule cells)) (without_granule object granule (without_granule object granule cells)) (ap not (itself object granule))
    ∙ twice (λ (e : Listed Cell). not (is_of object granule e)) cells

store_after_load : (cap object : ℕ) (granule : ℤ) (cell : Cell) (cells : List (Listed Cell)) → after_store cap object granule cell (after_load object granule cells) ≡ after_store cap object granule cell cells
store_after_load cap object granule cell cells =
    ap (λ (es : List (Listed Cell)). take cap (record { object = object; granule = granule; cell = cell } ∷ es)) (without_moved (listed_cell object granule cells) object granule cells)

-- what a store makes of the contents
pub stored_is : (cap object : ℕ) (granule : ℤ) (kind : LoadKind) (offset : ℤ) (w : ℕ) (cells : List (Listed Cell)) (before after : Cell) → content before ≡ unwrap_or (option_map content (listed_cell object granule cells)) unset → content after ≡ write_cell kind offset w (content before) → contents (after_store cap object granule after (after_load object granule cells)) ≡ after_store cap object granule (write_cell kind offset w (unwrap_or (listed_cell object granule (contents cells)) unset)) (contents cells)
stored_is cap object granule kind offset w cells before after found is_written =
    let held : content before ≡ unwrap_or (listed_cell object granule (contents cells)) unset =
    found ∙ ap (λ (x : Option (Content ℕ)). unwrap_or x unset) (sym (found_mapped object granule cells)) in
    ap contents (store_after_load cap object granule after cells)
    ∙ store_mapped cap object granule after cells
    ∙ ap (λ (c : Content ℕ). after_store cap object granule c (contents cells)) (is_written ∙ ap (write_cell kind offset w) held)

-- ---- a listed granule

some_mapped : (x : Option Cell) → IsSome (option_map content x) → IsSome x
some_mapped None h = h
some_mapped (Some c) h = h

pub listed_before : (object : ℕ) (granule : ℤ) (cells : List (Listed Cell)) → IsSome (listed_cell object granule (contents cells)) → IsSome (listed_cell object granule cells)
listed_before object granule cells h =
    some_mapped (listed_cell object granule cells) (let P : Option (Content ℕ) → Type 0 = λ x. IsSome x in subst P (found_mapped object granule cells) h)

front_is : (c : Cell) (object : ℕ) (granule : ℤ) (cells : List (Listed Cell)) → listed_cell object granule (moved_to_front (Some c) object granule cells) ≡ Some c
front_is c object granule cells = ap (option_map (λ (e : Listed Cell). e.cell)) (cond-true ((object == object) && int_eq granule granule) (Some (record { object = object; granule = granule; cell = c })) (find (is_of object granule) (without_granule object granule cells)) (itself object granule))

stays_listed : (x : Option Cell) (object : ℕ) (granule : ℤ) (cells : List (Listed Cell)) → IsSome x → IsSome (listed_cell object granule (moved_to_front x object granule cells))
stays_listed None object granule cells h = absurd (cc)
stays_listed (Some c) object granule cells h =
    let P : Option Cell → Type 0 = λ x. IsSome x in subst P (sym (front_is c object granule cells)) h

pub listed_after : (object : ℕ) (granule : ℤ) (cells : List (Listed Cell)) → IsSome (listed_cell object granule cells) → IsSome (listed_cell object granule (after_load object granule cells))
listed_after object granule cells h = stays_listed (listed_cell object granule cells) object granule cells h

unmoved : (x : Option Cell) (object : ℕ) (granule : ℤ) (cells : List (Listed Cell)) → (IsSome (listed_cell object granule (moved_to_front x object granule cells)) → ⊥) → moved_to_front x object granule cells ≡ cells
unmoved None object granule cells h = refl
unmoved (Some c) object granule cells h = absurd (h (stays_listed (Some c) object granule cells refl))

pub load_unchanged : (object : ℕ) (granule : ℤ) (cells : List (Listed Cell)) → (IsSome (listed_cell object granule (after_load object granule cells)) → ⊥) → after_load object granule cells ≡ cells
load_unchanged object granule cells h = unmoved (listed_cell object granule cells) object granule cells h
