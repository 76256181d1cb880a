-- Binary operators (C99 6.5.5 to 6.5.14) and the conditional operator (6.5.15): the rule of each, from what
-- its operands are.
use Rattle.std.specs.Prelude.{Bool, true, false, ◌&&◌, ◌||◌, if◌then◌else◌, Option, Some, None, Ok}
use Rattle.ob_words.specs.declared.types.IntType.{IntType}
use Rattle.ob_words.specs.declared.types.IntType.TheVariants.{Int, Long}
use Rattle.ob_words.specs.declared.types.BinOp.{BinOp}
use Rattle.ob_words.specs.declared.types.BinOp.TheVariants.{Add, Sub, Mul, Div, Rem, And, Or, Xor, Shl, Shr}
use Rattle.ob_words.specs.declared.types.Relation.{Relation}
use Rattle.ob_words.specs.declared.types.Relation.TheVariants.{Lt, Gt, Le, Ge, Eq, Ne}
use Rattle.ob_words.specs.Types.{common, promote}
use Rattle.ob_words.specs.Operators.{shifts}
use Rattle.ob_tree.specs.declared.tokens.Sign.{Sign}
use Rattle.ob_tree.specs.declared.tokens.Sign.TheVariants as sign
use Rattle.ob_tree.specs.Trees.{Mark}
use Rattle.ob_tree.specs.Types.{PlainType, PlainStructs}
use Rattle.ob_tree.specs.Types.{PlainType as type}
use Rattle.ob_tree.specs.Sizes.{size}
use Rattle.ob_typed.specs.Completeness.{is_object_type}
use Rattle.ob_typed.specs.TypedTree.{TypedExpr}
use Rattle.ob_typed.specs.TypedTree.{TypedExpr as expr, TypedNode as node}
use Rattle.ob_typed.specs.Faults.{Answer}
use Rattle.ob_typed.specs.TypeTests.{is_scalar, is_void, same_type}
use Rattle.ob_typed.specs.Conversions.{Checked, as_int, as_type, is_null, value, value_type}
use Rattle.ob_typed.specs.Conversions.{Checked as checked}
use Rattle.ob_typed.specs.Places.{pointer_sum}
use Rattle.ob_typed.specs.PostfixRules.{operand}

-- what a sign is between two operands
pub data Operation : Type 0 where
  Arithmetic : (op : BinOp) → Operation
  Order : (relation : Relation) → Operation
  Equality : (relation : Relation) → Operation
  Both : Operation
  Either : Operation
  Unknown : Operation

abbrev pub operation : Sign → Operation
operation sign.Plus = Operation.Arithmetic Add
operation sign.Minus = Operation.Arithmetic Sub
operation sign.Star = Operation.Arithmetic Mul
operation sign.Slash = Operation.Arithmetic Div
operation sign.Percent = Operation.Arithmetic Rem
operation sign.Amp = Operation.Arithmetic And
operation sign.Bar = Operation.Arithmetic Or
operation sign.Caret = Operation.Arithmetic Xor
operation sign.Shl = Operation.Arithmetic Shl
operation sign.Shr = Operation.Arithmetic Shr
operation sign.Lt = Operation.Order Lt
operation sign.Gt = Operation.Order Gt
operation sign.Le = Operation.Order Le
operation sign.Ge = Operation.Order Ge
operation sign.EqEq = Operation.Equality Eq
operation sign.NotEq = Operation.Equality Ne
operation sign.AndAnd = Operation.Both
operation sign.OrOr = Operation.Either
operation _ = Operation.Unknown

-- ---- arithmetic (6.5.5 to 6.5.7, 6.5.10 to 6.5.12)

-- The type in which an operator computes on numbers of two types: a shift in the promoted left one, any other
-- in the common type. And the right operand in its type: that of a shift is promoted for itself.
abbrev pub computed_in : BinOp → (a b : IntType) → IntType
computed_in op a b = if shifts op then promote a else common a b

abbrev pub right_operand : BinOp → (a b : IntType) → TypedExpr → TypedExpr
right_operand op a b y = as_int (if shifts op then promote b else common a b) y

abbrev pub arith_numbers : Mark → BinOp → (a b : IntType) → (x y : TypedExpr) → Checked
arith_numbers m op a b x y =
    checked.Plain (expr.Typed m.line (type.Int (computed_in op a b)) (node.Arith op (computed_in op a b) (as_int (computed_in op a b) x) (right_operand op a b y)))

-- a sum with a pointer to a complete type (6.5.6)
abbrev pub sum_of_pointer : PlainStructs → Mark → PlainType → (minus number_first : Bool) → (pointer number : TypedExpr) → Answer Checked
sum_of_pointer structs m t minus number_first p n =
    if is_object_type structs t then Ok (pointer_sum structs m.line t minus number_first p n) else operand m

-- the difference of two pointers to one complete type (6.5.6)
abbrev pub pointer_difference : PlainStructs → Mark → (t u : PlainType) → (x y : TypedExpr) → Answer Checked
pointer_difference structs m t u x y =
    if same_type t u && is_object_type structs t then Ok (checked.Plain (expr.Typed m.line (type.Int Long) (node.PtrDiff (size structs t) x y)))
    else operand m

abbrev pub arith_types : PlainStructs → Mark → BinOp → (t u : PlainType) → (x y : TypedExpr) → Answer Checked
arith_types structs m op (type.Int a) (type.Int b) x y = Ok (arith_numbers m op a b x y)
arith_types structs m Add (type.Pointer t) (type.Int b) x y = sum_of_pointer structs m t false false x y
arith_types structs m Add (type.Int a) (type.Pointer u) x y = sum_of_pointer structs m u false true y x
arith_types structs m Sub (type.Pointer t) (type.Int b) x y = sum_of_pointer structs m t true false x y
arith_types structs m Sub (type.Pointer t) (type.Pointer u) x y = pointer_difference structs m t u x y
arith_types structs m _ _ _ x y = operand m

-- ---- comparisons (6.5.8, 6.5.9)

-- two numbers in their common type
abbrev pub compare_numbers : Mark → Relation → IntType → (x y : TypedExpr) → Checked
compare_numbers m r k x y = checked.Plain (expr.Typed m.line (type.Int Int) (node.Compare r (as_int k x) (as_int k y)))

abbrev pub compare_pointers : Mark → Relation → (x y : TypedExpr) → Checked
compare_pointers m r x y = checked.Plain (expr.Typed m.line (type.Int Int) (node.PtrCompare r x y))

-- `<` and its kin take two numbers, or two pointers of one type
abbrev pub order_types : Mark → Relation → (t u : PlainType) → (x y : TypedExpr) → Answer Checked
order_types m r (type.Int a) (type.Int b) x y = Ok (compare_numbers m r (common a b) x y)
order_types m r (type.Pointer t) (type.Pointer u) x y = if same_type t u then Ok (compare_pointers m r x y) else operand m
order_types m r _ _ x y = operand m

-- The type that two parts have together (6.5.9, 6.5.15), where each is or isn't a null pointer constant: the
-- common type of numbers; the type of the one pointer where the other part is a null pointer constant; else
-- `void *` where one has it, else their one type.
abbrev pub two_nulls : (t u : PlainType) → PlainType
two_nulls t u = if is_void t then type.Pointer u else type.Pointer t

abbrev pub two_pointers : (null_t null_u : Bool) → (t u : PlainType) → Option PlainType
two_pointers true true t u = Some (two_nulls t u)
two_pointers true false t u = Some (type.Pointer u)
two_pointers false true t u = Some (type.Pointer t)
two_pointers false false t u =
    if same_type t u then Some (type.Pointer t) else (if is_void t || is_void u then Some (type.Pointer type.Void) else None)

abbrev pub joined : (null_t null_u : Bool) → (t u : PlainType) → Option PlainType
joined null_t null_u (type.Int a) (type.Int b) = Some (type.Int (common a b))
joined null_t null_u (type.Pointer t) (type.Int b) = if null_u then Some (type.Pointer t) else None
joined null_t null_u (type.Int a) (type.Pointer u) = if null_t then Some (type.Pointer u) else None
joined null_t null_u (type.Pointer t) (type.Pointer u) = two_pointers null_t null_u t u
joined null_t null_u _ _ = None

abbrev pub joined_type : (x y : Checked) → Option PlainType
joined_type x y = joined (is_null x) (is_null y) (value_type (value x)) (value_type (value y))

-- two parts in the type that they have together
abbrev pub compared_in : Mark → Relation → PlainType → (x y : TypedExpr) → Answer Checked
compared_in m r (type.Int k) x y = Ok (compare_numbers m r k x y)
compared_in m r t x y = Ok (compare_pointers m r (as_type x t) (as_type y t))

abbrev pub equality : Mark → Relation → Option PlainType → (x y : TypedExpr) → Answer Checked
equality m r None x y = operand m
equality m r (Some t) x y = compared_in m r t x y

-- ---- logical operators (6.5.13, 6.5.14): two numbers or pointers

abbrev pub logical : Mark → (and : Bool) → (x y : TypedExpr) → Answer Checked
logical m and x y =
    if is_scalar (value_type x) && is_scalar (value_type y) then Ok (checked.Plain (expr.Typed m.line (type.Int Int) (if and then node.And x y else node.Or x y)))
    else operand m

-- ---- all binary operators

abbrev pub operation_rule : PlainStructs → Mark → Operation → (x y : Checked) → Answer Checked
operation_rule structs m (Operation.Arithmetic op) x y = arith_types structs m op (value_type (value x)) (value_type (value y)) (value x) (value y)
operation_rule structs m (Operation.Order r) x y = order_types m r (value_type (value x)) (value_type (value y)) (value x) (value y)
operation_rule structs m (Operation.Equality r) x y = equality m r (joined_type x y) (value x) (value y)
operation_rule structs m Operation.Both x y = logical m true (value x) (value y)
operation_rule structs m Operation.Either x y = logical m false (value x) (value y)
operation_rule structs m Operation.Unknown x y = operand m

abbrev pub binary_rule : PlainStructs → Mark → Sign → (x y : Checked) → Answer Checked
binary_rule structs m s x y = operation_rule structs m (operation s) x y

-- ---- the conditional operator (6.5.15)

abbrev pub chosen : Mark → Option PlainType → (c x y : TypedExpr) → Answer Checked
chosen m None c x y = operand m
chosen m (Some t) c x y = Ok (checked.Plain (expr.Typed m.line t (node.Cond c (as_type x t) (as_type y t))))

abbrev pub cond_rule : Mark → (c x y : Checked) → Answer Checked
cond_rule m c x y =
    if is_scalar (value_type (value c)) then chosen m (joined_type x y) (value c) (value x) (value y) else operand m
