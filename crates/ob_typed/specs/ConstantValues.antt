-- Integer constant expressions and their values (C99 6.6). Such an expression consists of constants, casts to
-- integer types, and arithmetic, comparing, logical and conditional operators, also in its parts that aren't
-- evaluated. A division by zero counts only where it is evaluated.
use Rattle.std.specs.Prelude.{ℤ, pos, Bool, true, false, not, ◌&&◌, if◌then◌else◌, Option, Some, None, option_map, Result, Ok, Err}
use Rattle.std.specs.Ordering.{int_eq}
use Rattle.ob_words.specs.declared.types.IntType.{IntType}
use Rattle.ob_words.specs.declared.types.BinOp.{BinOp}
use Rattle.ob_words.specs.declared.types.Relation.{Relation}
use Rattle.ob_words.specs.declared.types.DivideByZero.{DivideByZero}
use Rattle.ob_words.specs.Conversion.{convert}
use Rattle.ob_words.specs.Operators.{binary, compare, shifts}
use Rattle.ob_typed.specs.TypedTree.{TypedExpr, TypedNode}
use Rattle.ob_typed.specs.TypedTree.{TypedExpr as expr, TypedNode as node}

-- the expression has the form of an integer constant expression
abbrev mutual
  pub is_constant_form : TypedExpr → Bool
  is_constant_form (expr.Typed line ty n) = is_constant_node n

  pub is_constant_node : TypedNode → Bool
  is_constant_node (node.Num n) = true
  is_constant_node (node.Convert k e) = is_constant_form e
  is_constant_node (node.Arith op k a b) = is_constant_form a && is_constant_form b
  is_constant_node (node.Compare r a b) = is_constant_form a && is_constant_form b
  is_constant_node (node.And a b) = is_constant_form a && is_constant_form b
  is_constant_node (node.Or a b) = is_constant_form a && is_constant_form b
  is_constant_node (node.Cond c a b) = is_constant_form c && (is_constant_form a && is_constant_form b)
  is_constant_node _ = false

abbrev pub truth : Bool → ℤ
truth true = pos 1
truth false = pos 0

abbrev pub is_true : ℤ → Bool
is_true z = not (int_eq z (pos 0))

abbrev pub quotient : Result ℤ DivideByZero → Option ℤ
quotient (Ok z) = Some z
quotient (Err e) = None

-- The operands of an operator in type k, in this type; the right one of a shift is any number.
abbrev pub right_value : BinOp → IntType → ℤ → ℤ
right_value op k b = if shifts op then b else convert k b

abbrev pub arith_value : BinOp → IntType → Option ℤ → Option ℤ → Option ℤ
arith_value op k (Some a) (Some b) = quotient (binary op k (convert k a) (right_value op k b))
arith_value op k (Some a) None = None
arith_value op k None b = None

abbrev pub compare_value : Relation → Option ℤ → Option ℤ → Option ℤ
compare_value r (Some a) (Some b) = Some (truth (compare r a b))
compare_value r (Some a) None = None
compare_value r None b = None

abbrev pub truth_value : Option ℤ → Option ℤ
truth_value o = option_map (λ z. truth (is_true z)) o

-- the second operand is evaluated where the first leaves it open (6.5.13, 6.5.14)
abbrev pub and_value : Option ℤ → Option ℤ → Option ℤ
and_value None b = None
and_value (Some a) b = if is_true a then truth_value b else Some (pos 0)

abbrev pub or_value : Option ℤ → Option ℤ → Option ℤ
or_value None b = None
or_value (Some a) b = if is_true a then Some (pos 1) else truth_value b

abbrev pub cond_value : Option ℤ → Option ℤ → Option ℤ → Option ℤ
cond_value None a b = None
cond_value (Some c) a b = if is_true c then a else b

-- the value, where no division by zero is evaluated
abbrev mutual
  pub evaluated : TypedExpr → Option ℤ
  evaluated (expr.Typed line ty n) = evaluated_node n

  pub evaluated_node : TypedNode → Option ℤ
  evaluated_node (node.Num n) = Some n
  evaluated_node (node.Convert k e) = option_map (convert k) (evaluated e)
  evaluated_node (node.Arith op k a b) = arith_value op k (evaluated a) (evaluated b)
  evaluated_node (node.Compare r a b) = compare_value r (evaluated a) (evaluated b)
  evaluated_node (node.And a b) = and_value (evaluated a) (evaluated b)
  evaluated_node (node.Or a b) = or_value (evaluated a) (evaluated b)
  evaluated_node (node.Cond c a b) = cond_value (evaluated c) (evaluated a) (evaluated b)
  evaluated_node _ = None

-- the value of an integer constant expression
abbrev pub constant : TypedExpr → Option ℤ
constant e = if is_constant_form e then evaluated e else None

abbrev pub is_zero : Option ℤ → Bool
is_zero None = false
is_zero (Some z) = int_eq z (pos 0)
