-- Assignment (C99 6.5.16) and the comma operator (6.5.17): the rule of each, from what its operands are.
use Rattle.std.specs.Prelude.{ℕ, nat_eq, Bool, true, false, if◌then◌else◌, Ok}
use Rattle.ob_words.specs.declared.types.IntType.{IntType}
use Rattle.ob_words.specs.declared.types.BinOp.{BinOp}
use Rattle.ob_words.specs.declared.types.BinOp.TheVariants.{Add, Sub, Mul, Div, Rem, And, Or, Xor, Shl, Shr}
use Rattle.ob_tree.specs.declared.faults.TypeKind.TheVariants as kind
use Rattle.ob_tree.specs.declared.tokens.Sign.{Sign}
use Rattle.ob_tree.specs.declared.tokens.Sign.TheVariants as sign
use Rattle.ob_tree.specs.Trees.{Mark, Infix}
use Rattle.ob_tree.specs.Trees.{Infix as joint}
use Rattle.ob_tree.specs.Types.{PlainType, PlainStructs}
use Rattle.ob_tree.specs.Types.{PlainType as type}
use Rattle.ob_tree.specs.Sizes.{size}
use Rattle.ob_typed.specs.Completeness.{is_object_type}
use Rattle.ob_typed.specs.TypedTree.{TypedExpr, TypedLean}
use Rattle.ob_typed.specs.TypedTree.{TypedExpr as expr, TypedPlace as place, TypedNode as node}
use Rattle.ob_typed.specs.Faults.{Answer, fault}
use Rattle.ob_typed.specs.TypeTests.{is_struct, is_unusable, is_void}
use Rattle.ob_typed.specs.Conversions.{Checked, as_type, fits, value, value_type}
use Rattle.ob_typed.specs.Conversions.{Checked as checked}
use Rattle.ob_typed.specs.PostfixRules.{operand}
use Rattle.ob_typed.specs.BinaryRules.{binary_rule, computed_in, right_operand}

-- ---- simple assignment (6.5.16.1); `first` is the place of the assigned value's first token

-- A number or a pointer is assigned. The store is told with the line of the assignment's own first token.
abbrev pub stored : Mark → (first : ℕ) → PlainType → TypedLean → Checked → Answer Checked
stored m first t l y =
    if is_unusable (value_type (value y)) then operand m
    else (if fits y t then Ok (checked.Plain (expr.Typed m.line t (node.Assign (place.Place m.line t l) (as_type (value y) t)))) else fault kind.Assign first)

-- a structure is assigned from a place of the same type, and then there is no value
abbrev pub copied : Mark → (first number : ℕ) → TypedLean → Checked → Answer Checked
copied m first n l (checked.Place line (type.Struct k) from) =
    if nat_eq n k then Ok (checked.Plain (expr.Typed m.line type.Void (node.CopyStruct (place.Place m.line (type.Struct n) l) (place.Place m.line (type.Struct n) from)))) else fault kind.Assign first
copied m first n l y = if is_void (value_type (value y)) then operand m else fault kind.Assign first

abbrev pub assign_type : PlainStructs → Mark → (first : ℕ) → PlainType → TypedLean → Checked → Answer Checked
assign_type structs m first (type.Int k) l y = stored m first (type.Int k) l y
assign_type structs m first (type.Pointer t) l y = stored m first (type.Pointer t) l y
assign_type structs m first (type.Struct n) l y = if is_object_type structs (type.Struct n) then copied m first n l y else operand m
assign_type structs m first (type.Array t n) l y = fault kind.NotPlace m.at
assign_type structs m first type.Void l y = operand m

abbrev pub assign_rule : PlainStructs → Mark → (first : ℕ) → (x y : Checked) → Answer Checked
assign_rule structs m first (checked.Place line t l) y = assign_type structs m first t l y
assign_rule structs m first _ y = fault kind.NotPlace m.at

-- ---- compound assignment (6.5.16.2)

abbrev pub updated : Mark → BinOp → (a b : IntType) → TypedLean → TypedExpr → Checked
updated m op a b l y =
    checked.Plain (expr.Typed m.line (type.Int a) (node.Update op (computed_in op a b) false (place.Place m.line (type.Int a) l) (right_operand op a b y)))

abbrev pub pointer_updated : PlainStructs → Mark → PlainType → (minus : Bool) → TypedLean → TypedExpr → Answer Checked
pointer_updated structs m t minus l y =
    if is_object_type structs t then Ok (checked.Plain (expr.Typed m.line (type.Pointer t) (node.PtrUpdate (size structs t) minus false (place.Place m.line (type.Pointer t) l) y)))
    else operand m

abbrev pub update_types : PlainStructs → Mark → BinOp → (t u : PlainType) → TypedLean → TypedExpr → Answer Checked
update_types structs m op (type.Int a) (type.Int b) l y = Ok (updated m op a b l y)
update_types structs m Add (type.Pointer t) (type.Int b) l y = pointer_updated structs m t false l y
update_types structs m Sub (type.Pointer t) (type.Int b) l y = pointer_updated structs m t true l y
update_types structs m _ (type.Array t n) _ l y = fault kind.NotPlace m.at
update_types structs m _ _ _ l y = operand m

abbrev pub update_rule : PlainStructs → Mark → BinOp → (x y : Checked) → Answer Checked
update_rule structs m op (checked.Place line t l) y = update_types structs m op t (value_type (value y)) l (value y)
update_rule structs m op _ y = fault kind.NotPlace m.at

abbrev pub assignment_rule : PlainStructs → Mark → Sign → (first : ℕ) → (x y : Checked) → Answer Checked
assignment_rule structs m sign.Assign first x y = assign_rule structs m first x y
assignment_rule structs m sign.StarAssign first x y = update_rule structs m Mul x y
assignment_rule structs m sign.SlashAssign first x y = update_rule structs m Div x y
assignment_rule structs m sign.PercentAssign first x y = update_rule structs m Rem x y
assignment_rule structs m sign.PlusAssign first x y = update_rule structs m Add x y
assignment_rule structs m sign.MinusAssign first x y = update_rule structs m Sub x y
assignment_rule structs m sign.ShlAssign first x y = update_rule structs m Shl x y
assignment_rule structs m sign.ShrAssign first x y = update_rule structs m Shr x y
assignment_rule structs m sign.AmpAssign first x y = update_rule structs m And x y
assignment_rule structs m sign.CaretAssign first x y = update_rule structs m Xor x y
assignment_rule structs m sign.BarAssign first x y = update_rule structs m Or x y
assignment_rule structs m _ first x y = operand m

-- ---- the comma operator (6.5.17): the first value is dropped; neither is a structure

abbrev pub comma_rule : Mark → (x y : Checked) → Answer Checked
comma_rule m x y =
    if is_struct (value_type (value x)) then operand m
    else (if is_struct (value_type (value y)) then operand m else Ok (checked.Plain (expr.Typed m.line (value_type (value y)) (node.Comma (value x) (value y)))))

-- ---- what joins two operands

abbrev pub join_rule : PlainStructs → Mark → Infix → (first : ℕ) → (x y : Checked) → Answer Checked
join_rule structs m joint.Comma first x y = comma_rule m x y
join_rule structs m (joint.Assign s) first x y = assignment_rule structs m s first x y
join_rule structs m (joint.Binary s) first x y = binary_rule structs m s x y
