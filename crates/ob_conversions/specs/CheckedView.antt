-- What the operands and marks of the program are as those of the definition.
use Rattle.ob_tree.specs.Trees.{Mark as PlainMark}
use Rattle.ob_tree.specs.Types.{PlainType}
use Rattle.ob_tree.specs.Types.{PlainType as type}
use Rattle.ob_tree.specs.TypeView.{plain_type}
use Rattle.ob_typed.specs.Conversions.{Checked as PlainChecked}
use Rattle.ob_typed.specs.TypedView.{typed_expr, typed_lean}
use Rattle.ob_conversions.specs.declared.checked.Checked.{Checked}
use Rattle.ob_conversions.specs.declared.checked.Checked.TheVariants as code
use Rattle.ob_conversions.specs.declared.marks.Mark.{Mark}

abbrev pub checked : Checked → PlainChecked
checked (code.Place p) = PlainChecked.Place p.line (plain_type p.ty) (typed_lean p.lean)
checked (code.NullPointer bare v) = PlainChecked.NullPointer bare (typed_expr v)
checked (code.Plain v) = PlainChecked.Plain (typed_expr v)

abbrev pub mark : Mark → PlainMark
mark m = record { first = m.first; at = m.at; line = m.line }

-- what a pointer type points to; any other type itself
abbrev pub target : PlainType → PlainType
target (type.Pointer t) = t
target t = t
