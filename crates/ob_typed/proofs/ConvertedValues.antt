-- Values that are converted (C99 6.3) are well typed in the type that they are converted to.
use Rattle.std.proofs.Common.{◌≡◌, ℕ, Bool, true, false, Option, Some, None, ◌≤◌, pos, negsuc, refl, ap, arith, slice_get}
use Rattle.std.specs.Prelude.{if◌then◌else◌}
use Rattle.std.proofs.lemmas.Int.{ints}
use Rattle.ob_words.specs.declared.types.IntType.{IntType}
use Rattle.ob_words.specs.declared.types.IntType.TheVariants.{Int, ULong}
use Rattle.ob_words.specs.Types.{IsNumber, common}
use Rattle.ob_words.proofs.Ranges.{range_is}
use Rattle.ob_tree.specs.Sizes.{most_bytes}
use Rattle.ob_tree.specs.Types.{PlainType}
use Rattle.ob_tree.specs.Types.{PlainType as type}
use Rattle.ob_typed.specs.BinaryRules.{joined, two_pointers}
use Rattle.ob_typed.specs.Conversions.{Checked, as_int, as_type, fits_type, value, value_type}
use Rattle.ob_typed.specs.Conversions.{Checked as checked}
use Rattle.ob_typed.specs.Places.{pointed_to}
use Rattle.ob_typed.specs.PostfixRules.{builtin_result}
use Rattle.ob_typed.specs.TypeTests.{is_scalar, is_void, same_int, same_type}
use Rattle.ob_typed.specs.TypedTree.{TypedExpr, TypedFunction, TypedNode}
use Rattle.ob_typed.specs.TypedTree.{TypedExpr as expr, TypedNode as node}
use Rattle.ob_typed.specs.WellTyped.{Agrees, Around, HasResult, IsInt, IsPointer, IsPromoted, IsScalar, IsTypedLean, IsTypedNode, IsWellTyped, place_type}
use Rattle.ob_typed.proofs.CommonTypes.{common_promoted}
use Rattle.ob_typed.proofs.SameTypes.{same_ints}

-- ---- numbers

pub number_zero : (k : IntType) → IsNumber k (pos 0)
number_zero k =
    let range = range_is k in
    record { from_least = range.at_most_zero; below_past = range.above_zero }

pub number_one : IsNumber Int (pos 1)
number_one = record { from_least = omega (arith, ints); below_past = omega (arith, ints) }

pub number_end : IsNumber Int (negsuc 0)
number_end = record { from_least = omega (arith, ints); below_past = omega (arith, ints) }

pub number_few : (n : ℕ) → n ≤ most_bytes → IsNumber ULong (pos n)
number_few n h = record { from_least = omega (arith, ints); below_past = omega (arith, ints) }

-- ---- types

-- the type of a place isn't `void`
abbrev pub IsPlaceType : PlainType → Type 0
IsPlaceType type.Void = ⊥
IsPlaceType t = Unit {0}

pub agrees_same : (t : PlainType) → Agrees t t
agrees_same type.Void = refl
agrees_same (type.Int k) = refl
agrees_same (type.Pointer t) = tt
agrees_same (type.Array t n) = refl
agrees_same (type.Struct n) = refl

pub agrees_is : (t u : PlainType) → t ≡ u → Agrees t u
agrees_is t u h = rw (← h) (agrees_same t)

-- what agrees with one pointer type agrees with another
agrees_other : (t u v : PlainType) → Agrees (type.Pointer t) v → Agrees (type.Pointer u) v
agrees_other t u type.Void h = absurd (cc)
agrees_other t u (type.Int k) h = absurd (cc)
agrees_other t u (type.Pointer v) h = tt
agrees_other t u (type.Array v n) h = absurd (cc)
agrees_other t u (type.Struct n) h = absurd (cc)

pub scalar_is : (t : PlainType) → is_scalar t ≡ true → IsScalar t
scalar_is (type.Int k) h = tt
scalar_is (type.Pointer t) h = tt
scalar_is _ h = absurd (cc)

result_other : (t u : PlainType) (o : Option TypedFunction) → HasResult o (type.Pointer t) → HasResult o (type.Pointer u)
result_other t u None h = h
result_other t u (Some f) h = agrees_other t u f.result h

-- ---- what an expression is

abbrev pub IsChecked : Around → Checked → Type 0
IsChecked c (checked.Place line t l) = IsPlaceType t × IsTypedLean c l
IsChecked c (checked.NullPointer bare v) = IsPointer (value_type v) × IsWellTyped c v
IsChecked c (checked.Plain v) = IsWellTyped c v

-- a value is well typed unless it is a structure, of which no node has the value
abbrev pub IsValue : Around → TypedExpr → Type 0
IsValue c (expr.Typed line type.Void n) = IsTypedNode c type.Void n
IsValue c (expr.Typed line (type.Int k) n) = IsTypedNode c (type.Int k) n
IsValue c (expr.Typed line (type.Pointer t) n) = IsTypedNode c (type.Pointer t) n
IsValue c (expr.Typed line (type.Array t m) n) = IsTypedNode c (type.Array t m) n
IsValue c (expr.Typed line (type.Struct m) n) = Unit {0}

-- converted to a type, and well typed
abbrev pub IsConverted : Around → PlainType → TypedExpr → Type 0
IsConverted c t e = (value_type e ≡ t) × IsWellTyped c e

module _ (c : Around) where
  typed_value : (e : TypedExpr) → IsWellTyped c e → IsValue c e
  typed_value (expr.Typed line type.Void n) h = h
  typed_value (expr.Typed line (type.Int k) n) h = h
  typed_value (expr.Typed line (type.Pointer t) n) h = h
  typed_value (expr.Typed line (type.Array t m) n) h = h
  typed_value (expr.Typed line (type.Struct m) n) h = tt

  pub value_is : (x : Checked) → IsChecked c x → IsValue c (value x)
  value_is (checked.Place line type.Void l) h = absurd h.0
  value_is (checked.Place line (type.Int k) l) h = (tt, refl, (tt, h.1))
  value_is (checked.Place line (type.Pointer t) l) h = (tt, tt, (tt, h.1))
  value_is (checked.Place line (type.Array t n) l) h = (tt, h.1)
  value_is (checked.Place line (type.Struct n) l) h = tt
  value_is (checked.NullPointer bare v) h = typed_value v h.1
  value_is (checked.Plain v) h = typed_value v h

  -- ---- pointers

  -- a pointer changes its type alone
  pub retyped : (n : TypedNode) (t u : PlainType) → IsTypedNode c (type.Pointer t) n → IsTypedNode c (type.Pointer u) n
  retyped (node.Num z) t u h = absurd h
  retyped node.Null t u h = tt
  retyped (node.Read p) t u h = (tt, agrees_other t u (place_type p) h.1, h.2)
  retyped (node.Lean l) t u h = (tt, h.1)
  retyped (node.Convert k e) t u h = absurd (cc (h.0))
  retyped (node.ToVoid e) t u h = absurd (cc (h.0))
  retyped (node.Arith op k a b) t u h = absurd (cc (h.0))
  retyped (node.Compare r a b) t u h = absurd (cc (h.0))
  retyped (node.PtrCompare r a b) t u h = absurd (cc (h.0))
  retyped (node.PtrDiff scale a b) t u h = absurd (cc (h.0))
  retyped (node.And a b) t u h = absurd (cc (h.0))
  retyped (node.Or a b) t u h = absurd (cc (h.0))
  retyped (node.Cond z a b) t u h = (tt, h.1, agrees_other t u (value_type a) h.2, h.3, h.4, h.5, h.6)
  retyped (node.Comma a b) t u h = (agrees_other t u (value_type b) h.0, h.1, h.2)
  retyped (node.Assign p e) t u h = (tt, agrees_other t u (place_type p) h.1, h.2, h.3, h.4)
  retyped (node.Update op k post p e) t u h = absurd (cc (h.0.1))
  retyped (node.PtrUpdate scale minus post p e) t u h = (tt, h.1, h.2, h.3, h.4)
  retyped (node.CopyStruct to from) t u h = absurd (cc (h.0))
  retyped (node.Call n es) t u h = (result_other t u (slice_get c.functions n) h.0, h.1)
  retyped (node.CallBuiltin b es) t u h = (agrees_other t u (builtin_result b) h.0, h.1)

  -- what a pointer's value points to
  pub pointed_typed : (e : TypedExpr) → IsPointer (value_type e) → IsWellTyped c e → IsTypedLean c (pointed_to e)
  pointed_typed (expr.Typed line t (node.Lean l)) p h = h.1
  pointed_typed e p h = (p, h)

  -- ---- numbers

  kept_int : (line : ℕ) (a k : IntType) (n : TypedNode) (b : Bool) → (b ≡ true → a ≡ k) → IsTypedNode c (type.Int a) n → IsConverted c (type.Int k) (if b then expr.Typed line (type.Int a) n else expr.Typed line (type.Int k) (node.Convert k (expr.Typed line (type.Int a) n)))
  kept_int line a k n true same h = (ap type.Int (same refl), h)
  kept_int line a k n false same h = (refl, (refl, tt, h))

  pub int_typed : (k : IntType) (e : TypedExpr) → IsInt (value_type e) → IsWellTyped c e → IsConverted c (type.Int k) (as_int k e)
  int_typed k (expr.Typed line (type.Int a) n) i h = kept_int line a k n (same_int a k) (same_ints a k) h
  int_typed k (expr.Typed line type.Void n) i h = absurd i
  int_typed k (expr.Typed line (type.Pointer t) n) i h = absurd i
  int_typed k (expr.Typed line (type.Array t m) n) i h = absurd i
  int_typed k (expr.Typed line (type.Struct m) n) i h = absurd i

  -- ---- a value that converts to a type (6.5.16.1)

  pub fitted : (null : Bool) (e : TypedExpr) (u : PlainType) → IsValue c e → fits_type null (value_type e) u ≡ true → IsScalar u × IsConverted c u (as_type e u)
  fitted null (expr.Typed line (type.Int a) n) (type.Int k) h f =
      (tt, int_typed k (expr.Typed line (type.Int a) n) tt h)
  fitted null (expr.Typed line (type.Int a) n) (type.Pointer u) h f = (tt, (refl, tt))
  fitted null (expr.Typed line (type.Pointer t) n) (type.Pointer u) h f = (tt, (refl, retyped n t u h))
  fitted null (expr.Typed line t n) u h f = absurd (cc)

  -- ---- two parts in the type that they have together (6.5.9, 6.5.15)

  -- the type is a promoted one, or a pointer's
  abbrev pub IsJoined : PlainType → Type 0
  IsJoined (type.Int k) = IsPromoted k
  IsJoined (type.Pointer t) = Unit {0}
  IsJoined t = ⊥

  abbrev pub AreJoined : TypedExpr → TypedExpr → Option PlainType → Type 0
  AreJoined x y None = Unit {0}
  AreJoined x y (Some t) = IsJoined t × IsConverted c t (as_type x t) × IsConverted c t (as_type y t)

  one_null : (b : Bool) (x y : TypedExpr) (t : PlainType) → AreJoined x y (Some (type.Pointer t)) → AreJoined x y (if b then Some (type.Pointer t) else None)
  one_null true x y t h = h
  one_null false x y t h = tt

  either_pointer : (b : Bool) (x y : TypedExpr) (t u : PlainType) → ((v : PlainType) → AreJoined x y (Some (type.Pointer v))) → AreJoined x y (Some (if b then type.Pointer t else type.Pointer u))
  either_pointer true x y t u h = h t
  either_pointer false x y t u h = h u

  same_pointer : (b d : Bool) (x y : TypedExpr) (t u : PlainType) → ((v : PlainType) → AreJoined x y (Some (type.Pointer v))) → AreJoined x y (if b then Some (type.Pointer t) else (if d then Some (type.Pointer u) else None))
  same_pointer true d x y t u h = h t
  same_pointer false true x y t u h = h u
  same_pointer false false x y t u h = tt

  both_pointers : (p q : Bool) (t u : PlainType) (x y : TypedExpr) → ((v : PlainType) → AreJoined x y (Some (type.Pointer v))) → AreJoined x y (two_pointers p q t u)
  both_pointers true true t u x y h = either_pointer (is_void t) x y u t h
  both_pointers true false t u x y h = h u
  both_pointers false true t u x y h = h t
  both_pointers false false t u x y h = same_pointer (same_type t u) _ x y t type.Void h

  pub joined_typed : (p q : Bool) (x y : TypedExpr) → IsValue c x → IsValue c y → AreJoined x y (joined p q (value_type x) (value_type y))
  joined_typed p q (expr.Typed line (type.Int a) n) (expr.Typed other (type.Int b) m) h i =
      (common_promoted a b, int_typed (common a b) (expr.Typed line (type.Int a) n) tt h, int_typed (common a b) (expr.Typed other (type.Int b) m) tt i)
  joined_typed p q (expr.Typed line (type.Pointer t) n) (expr.Typed other (type.Int b) m) h i =
      one_null q (expr.Typed line (type.Pointer t) n) (expr.Typed other (type.Int b) m) t (tt, (refl, retyped n t t h), (refl, tt))
  joined_typed p q (expr.Typed line (type.Int a) n) (expr.Typed other (type.Pointer u) m) h i =
      one_null p (expr.Typed line (type.Int a) n) (expr.Typed other (type.Pointer u) m) u (tt, (refl, tt), (refl, retyped m u u i))
  joined_typed p q (expr.Typed line (type.Pointer t) n) (expr.Typed other (type.Pointer u) m) h i =
      both_pointers p q t u (expr.Typed line (type.Pointer t) n) (expr.Typed other (type.Pointer u) m) (λ v. (tt, (refl, retyped n t v h), (refl, retyped m u v i)))
  joined_typed p q (expr.Typed line t n) (expr.Typed other u m) h i = tt
