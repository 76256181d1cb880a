-- What the examples of programs are written with.
use Rattle.std.specs.Prelude.{ℕ, Bool, Option, List}
use Rattle.ob_tree.specs.declared.faults.TypeKind.{TypeKind}
use Rattle.ob_tree.specs.Trees.{Mark, SpecTree, ObjTrees, DimTrees}
use Rattle.ob_tree.specs.Programs.{LocalTree, ParamTree}
use Rattle.ob_typed.specs.Faults.{Fault}

-- an expression's first token, its sign and its line
abbrev pub mark : (first at line : ℕ) → Mark
mark first at line = record { first = first; at = at; line = line }

abbrev pub param : (first line : ℕ) → SpecTree → (stars : ℕ) → (name : Option (List ℕ)) → (at : ℕ) → DimTrees → ParamTree
param first line s stars name at ds =
    record { first = first; line = line; spec = s; stars = stars; name = name; at = at; dims = ds }

abbrev pub local : (first line : ℕ) → (fixed : Bool) → SpecTree → ObjTrees → LocalTree
local first line fixed s names = record { first = first; line = line; fixed = fixed; spec = s; names = names }

-- a fault at the place of a token
abbrev pub at : TypeKind → (place : ℕ) → Fault
at kind place = record { kind = kind; place = place }
