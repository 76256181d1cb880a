-- Conversions (C99 6.3): what an expression is, its value, null pointer constants, and what converts to what.
use Rattle.std.specs.Prelude.{ℕ, Bool, true, false, ◌||◌, if◌then◌else◌}
use Rattle.ob_words.specs.declared.types.IntType.{IntType}
use Rattle.ob_words.specs.Types.{promote}
use Rattle.ob_tree.specs.Types.{PlainType}
use Rattle.ob_tree.specs.Types.{PlainType as type}
use Rattle.ob_typed.specs.TypedTree.{TypedExpr, TypedLean}
use Rattle.ob_typed.specs.TypedTree.{TypedExpr as expr, TypedPlace as place, TypedNode as node}
use Rattle.ob_typed.specs.TypeTests.{same_int, same_type, is_void}
use Rattle.ob_typed.specs.ConstantValues.{constant, is_zero}

-- What an expression is: a place (6.3.2.1), a null pointer constant of pointer type, or another value. Where
-- bare, the constant is `NULL`; else it is one that was cast to a pointer type.
pub data Checked : Type 0 where
  Place : (line : ℕ) → (ty : PlainType) → (lean : TypedLean) → Checked
  NullPointer : (bare : Bool) → (value : TypedExpr) → Checked
  Plain : (value : TypedExpr) → Checked

-- the type of an expression, before an array decays
abbrev pub type_of : Checked → PlainType
type_of (Checked.Place line t lean) = t
type_of (Checked.NullPointer bare (expr.Typed line t n)) = t
type_of (Checked.Plain (expr.Typed line t n)) = t

-- the value of a place (6.3.2.1): an array is a pointer to its first element, and any other place is loaded
abbrev pub loaded : (line : ℕ) → PlainType → TypedLean → TypedExpr
loaded line (type.Array t n) lean = expr.Typed line (type.Pointer t) (node.Lean lean)
loaded line t lean = expr.Typed line t (node.Read (place.Place line t lean))

abbrev pub value : Checked → TypedExpr
value (Checked.Place line t lean) = loaded line t lean
value (Checked.NullPointer bare v) = v
value (Checked.Plain v) = v

abbrev pub value_type : TypedExpr → PlainType
value_type (expr.Typed line t n) = t

-- a number that is a null pointer constant (6.3.2.3): an integer constant expression of value 0
abbrev pub is_null_number : TypedExpr → Bool
is_null_number (expr.Typed line (type.Int k) n) = is_zero (constant (expr.Typed line (type.Int k) n))
is_null_number _ = false

-- the expression is a null pointer constant
abbrev pub is_null : Checked → Bool
is_null (Checked.Place line t lean) = false
is_null (Checked.NullPointer bare v) = true
is_null (Checked.Plain v) = is_null_number v

-- a value of the type t, which may be a null pointer constant, converts to type u (6.5.16.1)
abbrev pub fits_type : (null : Bool) → (t u : PlainType) → Bool
fits_type null (type.Int a) (type.Int b) = true
fits_type null (type.Int a) (type.Pointer u) = null
fits_type null (type.Pointer t) (type.Pointer u) = null || (same_type t u || (is_void t || is_void u))
fits_type null _ _ = false

abbrev pub fits : Checked → PlainType → Bool
fits x u = fits_type (is_null x) (value_type (value x)) u

-- a number in an integer type (6.3.1.3)
abbrev pub as_int : IntType → TypedExpr → TypedExpr
as_int k (expr.Typed line (type.Int a) n) =
    if same_int a k then expr.Typed line (type.Int a) n else expr.Typed line (type.Int k) (node.Convert k (expr.Typed line (type.Int a) n))
as_int k e = e

-- A value that converts to a type, in this type. A null pointer constant that is a number is the null pointer;
-- a pointer changes its type alone.
abbrev pub as_type : TypedExpr → PlainType → TypedExpr
as_type e (type.Int k) = as_int k e
as_type (expr.Typed line (type.Int a) n) (type.Pointer u) = expr.Typed line (type.Pointer u) node.Null
as_type (expr.Typed line t n) u = expr.Typed line u n

-- the integer promotions (6.3.1.1)
abbrev pub promoted : TypedExpr → TypedExpr
promoted (expr.Typed line (type.Int a) n) = as_int (promote a) (expr.Typed line (type.Int a) n)
promoted e = e
