-- What is known of an expression's number before the program runs: that it is a constant, and that it is a number of a type, so
-- that a conversion to the type has nothing to do.
use Rattle.std.specs.Prelude.{ℕ, ◌^◌, Bool, true, false, ◌||◌, nat_le, ℤ, pos, unsigned_abs, Option, Some, None, option_map}
use Rattle.std.specs.Ordering.{int_eq}
use Rattle.ob_words.specs.declared.types.IntType.{IntType}
use Rattle.ob_words.specs.Conversion.{convert}
use Rattle.ob_words.specs.Types.{has_all, width}
use Rattle.ob_tree.specs.Types.{PlainType}
use Rattle.ob_tree.specs.Types.{PlainType as type}
use Rattle.ob_typed.specs.TypedTree.{TypedExpr, TypedNode}
use Rattle.ob_typed.specs.TypedTree.TypedExpr.{Typed}
use Rattle.ob_typed.specs.TypedTree.{TypedNode as node}

-- ---- constants

-- the number of a constant, which is 0 for null
abbrev pub constant : TypedExpr → Option ℤ
constant (Typed line ty (node.Num n)) = Some n
constant (Typed line ty node.Null) = Some (pos 0)
constant (Typed line ty (node.Convert k e)) = option_map (convert k) (constant e)
constant _ = None

abbrev pub is_zero : Option ℤ → Bool
is_zero None = false
is_zero (Some n) = int_eq n (pos 0)

-- a displacement that is known is kept apart where it is at most 2 ^ 61 bytes, so that it is never too far
abbrev pub is_near : ℤ → Bool
is_near d = nat_le (unsigned_abs d) (2 ^ 61)

-- ---- conversions that do nothing

-- 0 or 1
abbrev pub is_flag : TypedNode → Bool
is_flag (node.Compare r a b) = true
is_flag (node.PtrCompare r a b) = true
is_flag (node.And a b) = true
is_flag (node.Or a b) = true
is_flag _ = false

abbrev pub type_fits : IntType → PlainType → Bool
type_fits k (type.Int t) = has_all k t
type_fits k _ = false

-- each value of the expression is a number of type k
abbrev pub fits : IntType → TypedExpr → Bool
fits k (Typed line ty what) = type_fits k ty || is_flag what

-- how an operand's word is read: whole, or only as a number of a type, which its low bits tell
pub data Reading : Type 0 where
  whole : Reading
  low : (ty : IntType) → Reading

abbrev pub is_at_most : Reading → ℕ → Bool
is_at_most whole bits = false
is_at_most (low t) bits = nat_le (width t) bits

-- a conversion to type k makes no difference to what is read
abbrev pub is_needless : Reading → IntType → TypedExpr → Bool
is_needless reading k e = fits k e || is_at_most reading (width k)
