-- What a symbol table keeps: its entries, the oldest first, with for each the place of the entry that it hides, the
-- place of the newest entry of each name, and how many entries stand in each open block.
use Rattle.std.specs.Prelude.{◌≡◌, ◌≤◌, ℕ, ◌+◌, if◌then◌else◌, Option, Some, None, List, [], ◌∷◌, drop, length, map, option_map, slice_get}
use Rattle.std.specs.Str.{bytes_eq}
use Rattle.ob_scopes.specs.declared.entries.Entry.{Entry}
use Rattle.ob_scopes.specs.Newest.{Newest, place_in}
use Rattle.ob_scopes.specs.Bindings.{Scopes}

-- how many entries stand in several blocks
abbrev pub total : List ℕ → ℕ
total [] = 0
total (n ∷ ns) = n + total ns

module _ {T : Type 0} where
  abbrev pub binding : Entry T → List ℕ × T
  binding e = (e.name, e.value)

  -- entries, the newest first, as bindings
  abbrev pub bindings_of : List (Entry T) → List (List ℕ × T)
  bindings_of es = map binding es

  -- what the entry at a place, counted from the oldest, binds its name to; these entries stand the oldest first
  abbrev pub value_at : List (Entry T) → (place : ℕ) → Option T
  value_at es i = option_map (λ (e : Entry T). e.value) (slice_get es i)

  -- the place of the newest entry of a name, counted from the oldest
  abbrev pub place_of : (name : List ℕ) → List (Entry T) → Option ℕ
  place_of name [] = None
  place_of name (e ∷ es) = if bytes_eq e.name name then Some (length es) else place_of name es

  -- for each entry the place of the one that it hides
  abbrev pub hidden : List (Entry T) → List (Option ℕ)
  hidden [] = []
  hidden (e ∷ es) = place_of e.name es ∷ hidden es

  -- each name leads to its newest entry, and each entry to the one that it hides
  pub record IsIndexed (newest : Newest) (es : List (Entry T)) : Type 0 where
    pub places : (name : List ℕ) → place_in newest name ≡ place_of name es
    pub links : map (λ e. e.before) es ≡ hidden es

  -- what was in force before each open block, from how many entries stand in the innermost and in those around it
  abbrev pub outers : (here : ℕ) → (around : List ℕ) → List (Entry T) → List (List (List ℕ × T))
  outers here [] es = []
  outers here (n ∷ ns) es = bindings_of (drop here es) ∷ outers n ns (drop here es)

  abbrev pub scopes_of : (here : ℕ) → (around : List ℕ) → List (Entry T) → Scopes (List ℕ × T)
  scopes_of here around es = record { bindings = bindings_of es; outer = outers here around es }

  pub record IsKept (newest : Newest) (here : ℕ) (around : List ℕ) (es : List (Entry T)) : Type 0 where
    pub indexed : IsIndexed newest es
    pub within : here + total around ≤ length es
