-- Bases and displacements: where a place lies, and what a pointer's value points to (C99 6.3.2.1, 6.5.2.1,
-- 6.5.3.2, 6.5.6). A pointer that is an array, an address or such a pointer plus or minus a number has a base
-- and a displacement; parentheses and casts change neither. Any other pointer is evaluated and has no
-- displacement.
use Rattle.std.specs.Prelude.{ℕ, Bool}
use Rattle.ob_tree.specs.Types.{PlainType, PlainStructs}
use Rattle.ob_tree.specs.Types.{PlainType as type}
use Rattle.ob_tree.specs.Sizes.{size}
use Rattle.ob_typed.specs.TypedTree.{TypedExpr, TypedLean}
use Rattle.ob_typed.specs.TypedTree.{TypedExpr as expr, TypedLean as lean, TypedNode as node}
use Rattle.ob_typed.specs.Conversions.{Checked}

-- what a pointer's value points to
abbrev pub pointed_to : TypedExpr → TypedLean
pointed_to (expr.Typed line t (node.Lean l)) = l
pointed_to e = lean.Value e

-- so many elements of type t further, or where minus before
abbrev pub stepped : PlainStructs → PlainType → (minus number_first : Bool) → (pointer number : TypedExpr) → TypedLean
stepped structs t minus number_first p n = lean.Slide (pointed_to p) (size structs t) minus number_first n

-- a pointer plus or minus a number (6.5.6)
abbrev pub pointer_sum : PlainStructs → (line : ℕ) → PlainType → (minus number_first : Bool) → (pointer number : TypedExpr) → Checked
pointer_sum structs line t minus number_first p n =
    Checked.Plain (expr.Typed line (type.Pointer t) (node.Lean (stepped structs t minus number_first p n)))
