-- The functions with a body, which are numbered in their order, in a symbol table: each name is bound to the number
-- of the first function of this name.
use Rattle.std.specs.Prelude.{◌≡◌, ℕ, ◌+◌, if◌then◌else◌, Option, Some, None, List, [], ◌∷◌, map, reverse}
use Rattle.std.specs.Str.{bytes_eq}
use Rattle.ob_scopes.specs.Bindings.{bound}

-- the number of the first function of a name, where there is one
abbrev pub first_from : (n : ℕ) → (name : List ℕ) → List (List ℕ) → Option ℕ
first_from n name [] = None
first_from n name (b ∷ bs) = if bytes_eq b name then Some n else first_from (n + 1) name bs

-- the names of a table's bindings, the oldest first
abbrev pub names_of : List (List ℕ × ℕ) → List (List ℕ)
names_of bs = reverse (map (λ b. b.0) bs)

abbrev pub AreNumbered : List (List ℕ × ℕ) → Type 0
AreNumbered bs = (name : List ℕ) → bound name bs ≡ first_from 0 name (names_of bs)
