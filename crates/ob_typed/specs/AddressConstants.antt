-- Address constants (C99 6.6): a static object and an offset from 0 to its size, by members and by sums with
-- constants; or the null pointer.
use Rattle.std.specs.Prelude.{ℕ, ◌^◌, ℤ, pos, neg_ℤ, ◌+ℤ◌, ◌-ℤ◌, ◌*ℤ◌, Bool, true, false, ◌&&◌, if◌then◌else◌, int_le, int_lt, Option, Some, None, option_and_then, List, slice_get}
use Rattle.std.specs.Option.{is_some}
use Rattle.ob_words.specs.declared.types.IntType.TheVariants.{Long}
use Rattle.ob_words.specs.Conversion.{convert}
use Rattle.ob_tree.specs.Types.{PlainType, PlainStructs}
use Rattle.ob_tree.specs.Types.{PlainType as type}
use Rattle.ob_tree.specs.Sizes.{size}
use Rattle.ob_typed.specs.TypedTree.{TypedExpr, TypedLean, TypedNode}
use Rattle.ob_typed.specs.TypedTree.{TypedExpr as expr, TypedLean as lean, TypedNode as node}
use Rattle.ob_typed.specs.ConstantValues.{constant}

pub record Address : Type 0 where
  pub target : ℕ
  pub offset : ℤ

-- offsets stay far within the numbers of 128 bits; no text of a program is long enough to leave them
abbrev pub is_near : ℤ → Bool
is_near z = int_lt (neg_ℤ (pos (2 ^ 126))) z && int_lt z (pos (2 ^ 126))

-- so many bytes further
abbrev pub offset_by : Address → ℤ → Option Address
offset_by a z = if is_near (a.offset +ℤ z) then Some (record { target = a.target; offset = a.offset +ℤ z }) else None

-- a number of elements, converted to `long`, in bytes
abbrev pub distance : (minus : Bool) → (scale : ℕ) → ℤ → ℤ
distance false scale n = pos scale *ℤ convert Long n
distance true scale n = pos 0 -ℤ (pos scale *ℤ convert Long n)

abbrev pub slid : (minus : Bool) → (scale : ℕ) → Option Address → Option ℤ → Option Address
slid minus scale (Some a) (Some n) = offset_by a (distance minus scale n)
slid minus scale (Some a) None = None
slid minus scale None n = None

-- the static object and the offset, where both are constant
abbrev pub address : TypedLean → Option Address
address (lean.Static n) = Some (record { target = n; offset = pos 0 })
address (lean.Local n) = None
address (lean.Value e) = None
address (lean.Slide b scale minus number_first e) = slid minus scale (address b) (constant e)
address (lean.Member b offset) = option_and_then (λ a. offset_by a (pos offset)) (address b)

-- the size of a static object of this type; its own initialiser tells an array's length before
abbrev pub object_size : PlainStructs → Option PlainType → ℕ
object_size structs None = 0
object_size structs (Some t) = size structs t

-- an address in one of the static objects, whose types these are
abbrev pub is_inside : PlainStructs → (types : List PlainType) → Option Address → Bool
is_inside structs types None = false
is_inside structs types (Some a) = int_le (pos 0) a.offset && int_le a.offset (pos (object_size structs (slice_get types a.target)))

abbrev pub is_pointer_constant : PlainStructs → (types : List PlainType) → TypedNode → Bool
is_pointer_constant structs types node.Null = true
is_pointer_constant structs types (node.Lean l) = is_inside structs types (address l)
is_pointer_constant structs types _ = false

-- a value that the initialiser of a static object may have (6.7.8)
abbrev pub is_static_value : PlainStructs → (types : List PlainType) → TypedExpr → Bool
is_static_value structs types (expr.Typed line (type.Int k) n) = is_some (constant (expr.Typed line (type.Int k) n))
is_static_value structs types (expr.Typed line (type.Pointer t) n) = is_pointer_constant structs types n
is_static_value structs types _ = false
