-- What the rules of binary operators and the conditional operator (C99 6.5.5 to 6.5.15) give is well typed.
use Rattle.std.proofs.Common.{◌≡◌, ℕ, Bool, true, false, Option, Some, None, refl, sym, ap, ◌∙◌}
use Rattle.std.specs.Prelude.{◌&&◌, if◌then◌else◌}
use Rattle.ob_words.specs.declared.types.IntType.{IntType}
use Rattle.ob_words.specs.declared.types.IntType.TheVariants.{Int}
use Rattle.ob_words.specs.declared.types.BinOp.{BinOp}
use Rattle.ob_words.specs.declared.types.BinOp.TheVariants.{Add, Sub}
use Rattle.ob_words.specs.declared.types.Relation.{Relation}
use Rattle.ob_words.specs.Operators.{shifts}
use Rattle.ob_words.specs.Types.{common, promote}
use Rattle.ob_tree.specs.declared.tokens.Sign.{Sign}
use Rattle.ob_tree.specs.Trees.{Mark}
use Rattle.ob_tree.specs.Types.{PlainStructs, PlainType}
use Rattle.ob_tree.specs.Types.{PlainType as type}
use Rattle.ob_typed.specs.BinaryRules.{Operation, arith_numbers, arith_types, binary_rule, chosen, compare_numbers, compared_in, computed_in, cond_rule, equality, joined_type, logical, operation, operation_rule, order_types, pointer_difference, right_operand, sum_of_pointer}
use Rattle.ob_typed.specs.BinaryRules.{Operation as operator}
use Rattle.ob_typed.specs.Completeness.{is_object_type}
use Rattle.ob_typed.specs.Conversions.{Checked, as_int, as_type, is_null, value, value_type}
use Rattle.ob_typed.specs.TypeTests.{is_scalar, same_type}
use Rattle.ob_typed.specs.TypedTree.{TypedExpr, TypedNode}
use Rattle.ob_typed.specs.TypedTree.{TypedExpr as expr, TypedNode as node}
use Rattle.ob_typed.specs.WellTyped.{Around, IsInt, IsPointer, IsPromoted, IsRightIn, IsScalar, IsTypedNode, IsWellTyped, right_in}
use Rattle.ob_typed.proofs.CommonTypes.{common_promoted, promoted_twice}
use Rattle.ob_typed.proofs.ConvertedValues.{AreJoined, IsChecked, IsConverted, IsJoined, IsValue, agrees_is, int_typed, joined_typed, value_is}
use Rattle.ob_typed.proofs.GrowingStructs.{Grows, size_of}
use Rattle.ob_typed.proofs.PostfixNodes.{stepped_typed}
use Rattle.ob_typed.proofs.SameTypes.{both, one_type}
use Rattle.ob_typed.proofs.Walks.{Fine, fine_if}

module _ (c : Around) where
  -- ---- arithmetic

  computed_promoted : (shift : Bool) (a b : IntType) → IsPromoted (if shift then promote a else common a b)
  computed_promoted true a b = promoted_twice a
  computed_promoted false a b = common_promoted a b

  right_fits : (shift : Bool) (a b : IntType) (t : PlainType) → t ≡ type.Int (if shift then promote b else common a b) → IsRightIn shift (if shift then promote a else common a b) t
  right_fits true a b t h = (promote b, promoted_twice b, h)
  right_fits false a b t h = h

  -- the right operand of an arithmetic operator, in its type
  pub right_typed : (op : BinOp) (a b : IntType) (y : TypedExpr) → IsInt (value_type y) → IsWellTyped c y → IsConverted c (type.Int (right_in op a b)) (right_operand op a b y)
  right_typed op a b y i h = int_typed c (right_in op a b) y i h

  numbers_fine : (m : Mark) (op : BinOp) (a b : IntType) (x y : TypedExpr) → IsInt (value_type x) → IsWellTyped c x → IsInt (value_type y) → IsWellTyped c y → IsChecked c (arith_numbers m op a b x y)
  numbers_fine m op a b x y i h j k =
      let left = int_typed c (computed_in op a b) x i h in
      let right = right_typed op a b y j k in
      (refl, computed_promoted (shifts op) a b, left.0, right_fits (shifts op) a b (value_type (right_operand op a b y)) right.0, left.1, right.1)

  sum_fine : (s : PlainStructs) (m : Mark) (t : PlainType) (minus number_first : Bool) (p n : TypedExpr) → Grows s c.structs → IsPointer (value_type p) → IsWellTyped c p → IsInt (value_type n) → IsWellTyped c n → Fine (IsChecked c) (sum_of_pointer s m t minus number_first p n)
  sum_fine s m t minus number_first p n g i h j k =
      fine_if (IsChecked c) (is_object_type s t) _ _
      (λ object. (tt, stepped_typed c s t minus number_first p n g object i h j k))
      (λ not_object. tt)

  difference_fine : (s : PlainStructs) (m : Mark) (t u : PlainType) (line other : ℕ) (n p : TypedNode) → Grows s c.structs → IsTypedNode c (type.Pointer t) n → IsTypedNode c (type.Pointer u) p → Fine (IsChecked c) (pointer_difference s m t u (expr.Typed line (type.Pointer t) n) (expr.Typed other (type.Pointer u) p))
  difference_fine s m t u line other n p g h i =
      fine_if (IsChecked c) (same_type t u && is_object_type s t) _ _
      (λ same.
      let parts = both (same_type t u) (is_object_type s t) same in
      (refl, size_of s c.structs g t parts.1, ap type.Pointer (one_type t u parts.0), h, i))
      (λ other_types. tt)

  arith_fine : (s : PlainStructs) (m : Mark) (op : BinOp) (x y : TypedExpr) → Grows s c.structs → IsValue c x → IsValue c y → Fine (IsChecked c) (arith_types s m op (value_type x) (value_type y) x y)
  arith_fine s m op (expr.Typed line (type.Int a) n) (expr.Typed other (type.Int b) p) g h i =
      numbers_fine m op a b (expr.Typed line (type.Int a) n) (expr.Typed other (type.Int b) p) tt h tt i
  arith_fine s m Add (expr.Typed line (type.Pointer t) n) (expr.Typed other (type.Int b) p) g h i =
      sum_fine s m t false false (expr.Typed line (type.Pointer t) n) (expr.Typed other (type.Int b) p) g tt h tt i
  arith_fine s m Add (expr.Typed line (type.Int a) n) (expr.Typed other (type.Pointer u) p) g h i =
      sum_fine s m u false true (expr.Typed other (type.Pointer u) p) (expr.Typed line (type.Int a) n) g tt i tt h
  arith_fine s m Sub (expr.Typed line (type.Pointer t) n) (expr.Typed other (type.Int b) p) g h i =
      sum_fine s m t true false (expr.Typed line (type.Pointer t) n) (expr.Typed other (type.Int b) p) g tt h tt i
  arith_fine s m Sub (expr.Typed line (type.Pointer t) n) (expr.Typed other (type.Pointer u) p) g h i =
      difference_fine s m t u line other n p g h i
  arith_fine s m op (expr.Typed line t n) (expr.Typed other u p) g h i = tt

  -- ---- comparisons

  compared_numbers : (m : Mark) (r : Relation) (k : IntType) (x y : TypedExpr) → IsPromoted k → IsConverted c (type.Int k) (as_int k x) → IsConverted c (type.Int k) (as_int k y) → IsChecked c (compare_numbers m r k x y)
  compared_numbers m r k x y p h i = (refl, (k, p, h.0, i.0), h.1, i.1)

  order_fine : (m : Mark) (r : Relation) (x y : TypedExpr) → IsValue c x → IsValue c y → Fine (IsChecked c) (order_types m r (value_type x) (value_type y) x y)
  order_fine m r (expr.Typed line (type.Int a) n) (expr.Typed other (type.Int b) p) h i =
      compared_numbers m r (common a b) (expr.Typed line (type.Int a) n) (expr.Typed other (type.Int b) p) (common_promoted a b)
      (int_typed c (common a b) (expr.Typed line (type.Int a) n) tt h) (int_typed c (common a b) (expr.Typed other (type.Int b) p) tt i)
  order_fine m r (expr.Typed line (type.Pointer t) n) (expr.Typed other (type.Pointer u) p) h i =
      fine_if (IsChecked c) (same_type t u) _ _
      (λ same. (refl, tt, ap type.Pointer (one_type t u same), h, i))
      (λ other_types. tt)
  order_fine m r (expr.Typed line t n) (expr.Typed other u p) h i = tt

  pointer_type : (e : TypedExpr) (t : PlainType) → value_type e ≡ type.Pointer t → IsPointer (value_type e)
  pointer_type e t h = rw h tt

  compared_fine : (m : Mark) (r : Relation) (t : PlainType) (x y : TypedExpr) → AreJoined c x y (Some t) → Fine (IsChecked c) (compared_in m r t x y)
  compared_fine m r (type.Int k) x y h = compared_numbers m r k x y h.0 h.1 h.2
  compared_fine m r (type.Pointer t) x y h =
      (refl, pointer_type (as_type x (type.Pointer t)) t h.1.0, h.1.0 ∙ sym h.2.0, h.1.1, h.2.1)
  compared_fine m r type.Void x y h = absurd h.0
  compared_fine m r (type.Array t n) x y h = absurd h.0
  compared_fine m r (type.Struct n) x y h = absurd h.0

  equality_fine : (m : Mark) (r : Relation) (o : Option PlainType) (x y : TypedExpr) → AreJoined c x y o → Fine (IsChecked c) (equality m r o x y)
  equality_fine m r None x y h = tt
  equality_fine m r (Some t) x y h = compared_fine m r t x y h

  both_joined : (x y : Checked) → IsChecked c x → IsChecked c y → AreJoined c (value x) (value y) (joined_type x y)
  both_joined x y h i =
      joined_typed c (is_null x) (is_null y) (value x) (value y) (value_is c x h) (value_is c y i)

  -- ---- logical operators

  -- a number or a pointer is well typed
  pub scalar_typed : (e : TypedExpr) → IsValue c e → is_scalar (value_type e) ≡ true → IsScalar (value_type e) × IsWellTyped c e
  scalar_typed (expr.Typed line (type.Int k) n) h i = (tt, h)
  scalar_typed (expr.Typed line (type.Pointer t) n) h i = (tt, h)
  scalar_typed (expr.Typed line type.Void n) h i = absurd (cc)
  scalar_typed (expr.Typed line (type.Array t k) n) h i = absurd (cc)
  scalar_typed (expr.Typed line (type.Struct k) n) h i = absurd (cc)

  logical_node : (and : Bool) (x y : TypedExpr) → IsScalar (value_type x) × IsWellTyped c x → IsScalar (value_type y) × IsWellTyped c y → IsTypedNode c (type.Int Int) (if and then node.And x y else node.Or x y)
  logical_node true x y h i = (refl, h.0, i.0, h.1, i.1)
  logical_node false x y h i = (refl, h.0, i.0, h.1, i.1)

  logical_fine : (m : Mark) (and : Bool) (x y : TypedExpr) → IsValue c x → IsValue c y → Fine (IsChecked c) (logical m and x y)
  logical_fine m and x y h i =
      fine_if (IsChecked c) (is_scalar (value_type x) && is_scalar (value_type y)) _ _
      (λ scalars.
      let parts = both (is_scalar (value_type x)) (is_scalar (value_type y)) scalars in
      logical_node and x y (scalar_typed x h parts.0) (scalar_typed y i parts.1))
      (λ others. tt)

  -- ---- all binary operators, and the conditional one

  operation_fine : (s : PlainStructs) (m : Mark) (o : Operation) (x y : Checked) → Grows s c.structs → IsChecked c x → IsChecked c y → Fine (IsChecked c) (operation_rule s m o x y)
  operation_fine s m (operator.Arithmetic op) x y g h i = arith_fine s m op (value x) (value y) g (value_is c x h) (value_is c y i)
  operation_fine s m (operator.Order r) x y g h i = order_fine m r (value x) (value y) (value_is c x h) (value_is c y i)
  operation_fine s m (operator.Equality r) x y g h i = equality_fine m r (joined_type x y) (value x) (value y) (both_joined x y h i)
  operation_fine s m operator.Both x y g h i = logical_fine m true (value x) (value y) (value_is c x h) (value_is c y i)
  operation_fine s m operator.Either x y g h i = logical_fine m false (value x) (value y) (value_is c x h) (value_is c y i)
  operation_fine s m operator.Unknown x y g h i = tt

  pub binary_fine : (s : PlainStructs) (m : Mark) (op : Sign) (x y : Checked) → Grows s c.structs → IsChecked c x → IsChecked c y → Fine (IsChecked c) (binary_rule s m op x y)
  binary_fine s m op x y g h i = operation_fine s m (operation op) x y g h i

  joined_scalar : (t : PlainType) → IsJoined c t → IsScalar t
  joined_scalar (type.Int k) h = tt
  joined_scalar (type.Pointer t) h = tt
  joined_scalar type.Void h = absurd h
  joined_scalar (type.Array t n) h = absurd h
  joined_scalar (type.Struct n) h = absurd h

  chosen_fine : (m : Mark) (o : Option PlainType) (z x y : TypedExpr) → IsScalar (value_type z) × IsWellTyped c z → AreJoined c x y o → Fine (IsChecked c) (chosen m o z x y)
  chosen_fine m None z x y h i = tt
  chosen_fine m (Some t) z x y h i =
      (joined_scalar t i.0, h.0, agrees_is t (value_type (as_type x t)) (sym i.1.0), i.1.0 ∙ sym i.2.0, h.1, i.1.1, i.2.1)

  pub cond_fine : (m : Mark) (z x y : Checked) → IsChecked c z → IsChecked c x → IsChecked c y → Fine (IsChecked c) (cond_rule m z x y)
  cond_fine m z x y h i j =
      fine_if (IsChecked c) (is_scalar (value_type (value z))) _ _
      (λ scalar. chosen_fine m (joined_type x y) (value z) (value x) (value y) (scalar_typed (value z) (value_is c z h) scalar) (both_joined x y i j))
      (λ other. tt)
