-- What the rules of unary operators and casts (C99 6.5.3, 6.5.4) give is well typed.
use Rattle.std.proofs.Common.{Bool, true, false, negsuc, refl}
use Rattle.ob_words.specs.declared.types.IntType.{IntType}
use Rattle.ob_words.specs.Types.{promote}
use Rattle.ob_words.proofs.Conversions.{convert_number}
use Rattle.ob_tree.specs.declared.tokens.Sign.{Sign}
use Rattle.ob_tree.specs.declared.tokens.Sign.TheVariants as sign
use Rattle.ob_tree.specs.Sizes.{size}
use Rattle.ob_tree.specs.Trees.{Mark}
use Rattle.ob_tree.specs.Types.{PlainStructs, PlainType}
use Rattle.ob_tree.specs.Types.{PlainType as type}
use Rattle.ob_typed.specs.Completeness.{is_object_type, is_sized}
use Rattle.ob_typed.specs.Conversions.{Checked, value, value_type}
use Rattle.ob_typed.specs.Conversions.{Checked as checked}
use Rattle.ob_typed.specs.TypedTree.{TypedExpr}
use Rattle.ob_typed.specs.TypedTree.{TypedExpr as expr}
use Rattle.ob_typed.specs.UnaryRules.{address_rule, cast_rule, int_cast, is_bare_null, null_cast, pointer_cast, size_rule, star_rule, star_target, unary_rule, unary_type, void_cast}
use Rattle.ob_typed.specs.WellTyped.{Around, IsPointer, IsWellTyped}
use Rattle.ob_typed.proofs.CommonTypes.{promoted_twice}
use Rattle.ob_typed.proofs.ConvertedValues.{IsChecked, IsValue, int_typed, number_few, number_zero, pointed_typed, retyped, value_is}
use Rattle.ob_typed.proofs.GrowingStructs.{size_few}
use Rattle.ob_typed.proofs.Walks.{Fine, fine_if}

module _ (c : Around) where
  -- ---- addresses and indirection

  address_fine : (m : Mark) (x : Checked) → IsChecked c x → Fine (IsChecked c) (address_rule m x)
  address_fine m (checked.Place line t l) h = (tt, h.1)
  address_fine m (checked.NullPointer bare v) h = tt
  address_fine m (checked.Plain v) h = tt

  target_fine : (m : Mark) (t : PlainType) (x : TypedExpr) → IsPointer (value_type x) → IsWellTyped c x → Fine (IsChecked c) (star_target m t x)
  target_fine m type.Void x p h = tt
  target_fine m (type.Int k) x p h = (tt, pointed_typed c x p h)
  target_fine m (type.Pointer t) x p h = (tt, pointed_typed c x p h)
  target_fine m (type.Array t n) x p h = (tt, pointed_typed c x p h)
  target_fine m (type.Struct n) x p h = (tt, pointed_typed c x p h)

  star_fine : (m : Mark) (x : TypedExpr) → IsValue c x → Fine (IsChecked c) (star_rule m x)
  star_fine m (expr.Typed line (type.Pointer t) n) h = target_fine m t (expr.Typed line (type.Pointer t) n) tt h
  star_fine m (expr.Typed line t n) h = tt

  -- ---- arithmetic operators

  type_fine : (m : Mark) (s : Sign) (x : TypedExpr) → IsValue c x → Fine (IsChecked c) (unary_type m s (value_type x) x)
  type_fine m sign.Plus (expr.Typed line (type.Int k) n) h = (int_typed c (promote k) (expr.Typed line (type.Int k) n) tt h).1
  type_fine m sign.Minus (expr.Typed line (type.Int k) n) h =
      let x = int_typed c (promote k) (expr.Typed line (type.Int k) n) tt h in
      (refl, promoted_twice k, refl, x.0, number_zero (promote k), x.1)
  type_fine m sign.Tilde (expr.Typed line (type.Int k) n) h =
      let x = int_typed c (promote k) (expr.Typed line (type.Int k) n) tt h in
      (refl, promoted_twice k, x.0, refl, x.1, convert_number (promote k) (negsuc 0))
  type_fine m sign.Not (expr.Typed line (type.Int k) n) h =
      let x = int_typed c (promote k) (expr.Typed line (type.Int k) n) tt h in
      (refl, (promote k, promoted_twice k, x.0, refl), x.1, number_zero (promote k))
  type_fine m sign.Not (expr.Typed line (type.Pointer t) n) h = (refl, tt, refl, h, tt)
  type_fine m s (expr.Typed line t n) h = tt

  pub unary_fine : (m : Mark) (s : Sign) (x : Checked) → IsChecked c x → Fine (IsChecked c) (unary_rule m s x)
  unary_fine m sign.Amp x h = address_fine m x h
  unary_fine m sign.Star x h = star_fine m (value x) (value_is c x h)
  unary_fine m s x h = type_fine m s (value x) (value_is c x h)

  -- ---- sizeof

  pub size_fine : (s : PlainStructs) (m : Mark) (t : PlainType) → Fine (IsChecked c) (size_rule s m t)
  size_fine s m t =
      fine_if (IsChecked c) (is_object_type s t) _ _
      (λ object. number_few (size s t) (size_few s t object))
      (λ not_object. fine_if (IsChecked c) (is_sized s t) _ _ (λ sized. tt) (λ unsized. tt))

  -- ---- casts

  null_fine : (bare : Bool) (e : TypedExpr) → IsPointer (value_type e) → IsWellTyped c e → IsChecked c (null_cast bare e)
  null_fine true e p h = (p, h)
  null_fine false e p h = h

  pointer_fine : (m : Mark) (bare : Bool) (u : PlainType) (x : TypedExpr) → IsValue c x → Fine (IsChecked c) (pointer_cast m bare u (value_type x) x)
  pointer_fine m bare u (expr.Typed line (type.Pointer t) n) h =
      null_fine bare (expr.Typed line (type.Pointer u) n) tt (retyped c n t u h)
  pointer_fine m true u (expr.Typed line (type.Int k) n) h = (tt, tt)
  pointer_fine m bare u (expr.Typed line t n) h = tt

  void_fine : (m : Mark) (x : TypedExpr) → IsValue c x → Fine (IsChecked c) (void_cast m (value_type x) x)
  void_fine m (expr.Typed line type.Void n) h = (refl, h)
  void_fine m (expr.Typed line (type.Int k) n) h = (refl, h)
  void_fine m (expr.Typed line (type.Pointer t) n) h = (refl, h)
  void_fine m (expr.Typed line (type.Array t k) n) h = (refl, h)
  void_fine m (expr.Typed line (type.Struct k) n) h = tt

  int_fine : (m : Mark) (k : IntType) (x : TypedExpr) → IsValue c x → Fine (IsChecked c) (int_cast m k (value_type x) x)
  int_fine m k (expr.Typed line (type.Int a) n) h = (int_typed c k (expr.Typed line (type.Int a) n) tt h).1
  int_fine m k (expr.Typed line t n) h = tt

  pub cast_fine : (m : Mark) (u : PlainType) (x : Checked) → IsChecked c x → Fine (IsChecked c) (cast_rule m u x)
  cast_fine m type.Void x h = void_fine m (value x) (value_is c x h)
  cast_fine m (type.Int k) x h = int_fine m k (value x) (value_is c x h)
  cast_fine m (type.Pointer u) x h = pointer_fine m (is_bare_null x) u (value x) (value_is c x h)
  cast_fine m (type.Array u n) x h = tt
  cast_fine m (type.Struct n) x h = tt
