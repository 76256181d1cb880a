-- Tags of structures in a symbol table, as the declarations in force (C99 6.2.3, 6.7.2.3).
use Rattle.std.specs.Prelude.{ℕ, suc, ◌≤◌, nat_eq, if◌then◌else◌, Option, Some, None, List, [], ◌∷◌, length, map}
use Rattle.ob_typed.specs.Scopes.{TagDeclared}
use Rattle.ob_scopes.specs.declared.tags.Tag.{Tag}
use Rattle.ob_scopes.specs.Bindings.{Scopes}

abbrev pub tag_as : List ℕ × Tag → TagDeclared
tag_as b = record { name = b.0; depth = b.1.depth; number = b.1.number }

abbrev pub tags_of : Scopes (List ℕ × Tag) → Scopes TagDeclared
tags_of s = record { bindings = map tag_as s.bindings; outer = map (map tag_as) s.outer }

-- no tag is declared deeper than this, and none deeper than those after it
abbrev pub AreWithin : (depth : ℕ) → List TagDeclared → Type 0
AreWithin n [] = Unit {0}
AreWithin n (d ∷ ds) = (d.depth ≤ n) × AreWithin d.depth ds

-- in each open block the tags are those of this block in front of those of the blocks around it
abbrev pub AreLayered : List TagDeclared → (outer : List (List TagDeclared)) → Type 0
AreLayered ds [] = AreWithin 0 ds
AreLayered ds (o ∷ os) = AreWithin (suc (length os)) ds × AreLayered o os

-- a declaration, where it stands in the block of this depth
abbrev pub here : (depth : ℕ) → Option TagDeclared → Option TagDeclared
here n None = None
here n (Some d) = if nat_eq d.depth n then Some d else None
