-- The members of a structure so far, beside a symbol table of their names.
use Rattle.std.specs.Prelude.{◌≡◌, ℕ, List, map, reverse}
use Rattle.ob_tree.specs.declared.types.MemberRow.{MemberRow}

abbrev pub AreNamed : List MemberRow → List (List ℕ × Unit {0}) → Type 0
AreNamed rows bs = map (λ r. r.name) rows ≡ reverse (map (λ b. b.0) bs)
