-- What the rules of assignment and the comma operator (C99 6.5.16, 6.5.17) give is well typed.
use Rattle.std.proofs.Common.{◌≡◌, ℕ, Bool, true, false, refl}
use Rattle.std.specs.Prelude.{nat_eq}
use Rattle.ob_words.specs.declared.types.IntType.{IntType}
use Rattle.ob_words.specs.declared.types.BinOp.{BinOp}
use Rattle.ob_words.specs.declared.types.BinOp.TheVariants.{Add, Sub, Mul, Div, Rem, And, Or, Xor, Shl, Shr}
use Rattle.ob_tree.specs.declared.tokens.Sign.{Sign}
use Rattle.ob_tree.specs.declared.tokens.Sign.TheVariants as sign
use Rattle.ob_tree.specs.Trees.{Infix, Mark}
use Rattle.ob_tree.specs.Trees.{Infix as joint}
use Rattle.ob_tree.specs.Types.{PlainStructs, PlainType}
use Rattle.ob_tree.specs.Types.{PlainType as type}
use Rattle.ob_typed.specs.AssignRules.{assign_rule, assign_type, assignment_rule, comma_rule, copied, join_rule, pointer_updated, stored, update_rule, update_types, updated}
use Rattle.ob_typed.specs.Completeness.{is_object_type}
use Rattle.ob_typed.specs.Conversions.{Checked, fits, is_null, value, value_type}
use Rattle.ob_typed.specs.Conversions.{Checked as checked}
use Rattle.ob_typed.specs.TypeTests.{is_struct, is_unusable, is_void}
use Rattle.ob_typed.specs.TypedTree.{TypedExpr, TypedLean}
use Rattle.ob_typed.specs.TypedTree.{TypedExpr as expr}
use Rattle.ob_typed.specs.WellTyped.{Around, IsInt, IsStored, IsTypedLean, IsWellTyped}
use Rattle.ob_typed.proofs.BinaryNodes.{binary_fine, right_typed}
use Rattle.ob_typed.proofs.ConvertedValues.{IsChecked, IsValue, agrees_same, fitted, value_is}
use Rattle.ob_typed.proofs.GrowingStructs.{Grows, object_stays, size_of}
use Rattle.ob_typed.proofs.Walks.{Fine, fine_if}

module _ (c : Around) where
  -- ---- simple assignment

  stored_fine : (m : Mark) (first : ℕ) (t : PlainType) (l : TypedLean) (y : Checked) → IsStored t → IsTypedLean c l → IsChecked c y → Fine (IsChecked c) (stored m first t l y)
  stored_fine m first t l y s h i =
      fine_if (IsChecked c) (is_unusable (value_type (value y))) _ _
      (λ unusable. tt)
      (λ usable. fine_if (IsChecked c) (fits y t) _ _
      (λ fit.
      let made = fitted c (is_null y) (value y) t (value_is c y i) fit in
      (made.0, agrees_same t, made.1.0, (s, h), made.1.1))
      (λ unfit. tt))

  copied_fine : (s : PlainStructs) (m : Mark) (first n : ℕ) (l : TypedLean) (y : Checked) → Grows s c.structs → is_object_type s (type.Struct n) ≡ true → IsTypedLean c l → IsChecked c y → Fine (IsChecked c) (copied m first n l y)
  copied_fine s m first n l (checked.Place line (type.Struct k) from) g object h i =
      fine_if (IsChecked c) (nat_eq n k) _ _
      (λ same. (refl, (n, refl, object_stays s c.structs g (type.Struct n) object), refl, (tt, h), (tt, i.1)))
      (λ other. tt)
  copied_fine s m first n l (checked.Place line t from) g object h i = tt
  copied_fine s m first n l (checked.NullPointer bare v) g object h i =
      fine_if (IsChecked c) (is_void (value_type v)) _ _ (λ void. tt) (λ other. tt)
  copied_fine s m first n l (checked.Plain v) g object h i =
      fine_if (IsChecked c) (is_void (value_type v)) _ _ (λ void. tt) (λ other. tt)

  type_fine : (s : PlainStructs) (m : Mark) (first : ℕ) (t : PlainType) (l : TypedLean) (y : Checked) → Grows s c.structs → IsTypedLean c l → IsChecked c y → Fine (IsChecked c) (assign_type s m first t l y)
  type_fine s m first (type.Int k) l y g h i = stored_fine m first (type.Int k) l y tt h i
  type_fine s m first (type.Pointer t) l y g h i = stored_fine m first (type.Pointer t) l y tt h i
  type_fine s m first (type.Struct n) l y g h i =
      fine_if (IsChecked c) (is_object_type s (type.Struct n)) _ _
      (λ object. copied_fine s m first n l y g object h i)
      (λ other. tt)
  type_fine s m first (type.Array t n) l y g h i = tt
  type_fine s m first type.Void l y g h i = tt

  assign_fine : (s : PlainStructs) (m : Mark) (first : ℕ) (x y : Checked) → Grows s c.structs → IsChecked c x → IsChecked c y → Fine (IsChecked c) (assign_rule s m first x y)
  assign_fine s m first (checked.Place line t l) y g h i = type_fine s m first t l y g h.1 i
  assign_fine s m first (checked.NullPointer bare v) y g h i = tt
  assign_fine s m first (checked.Plain v) y g h i = tt

  -- ---- compound assignment

  updated_fine : (m : Mark) (op : BinOp) (a b : IntType) (l : TypedLean) (y : TypedExpr) → IsTypedLean c l → IsInt (value_type y) → IsWellTyped c y → IsChecked c (updated m op a b l y)
  updated_fine m op a b l y h i j =
      let right = right_typed c op a b y i j in
      ((a, refl, (b, refl, right.0)), refl, (tt, h), right.1)

  pointer_fine : (s : PlainStructs) (m : Mark) (t : PlainType) (minus : Bool) (l : TypedLean) (y : TypedExpr) → Grows s c.structs → IsTypedLean c l → IsInt (value_type y) → IsWellTyped c y → Fine (IsChecked c) (pointer_updated s m t minus l y)
  pointer_fine s m t minus l y g h i j =
      fine_if (IsChecked c) (is_object_type s t) _ _
      (λ object. (tt, size_of s c.structs g t object, i, (tt, h), j))
      (λ other. tt)

  types_fine : (s : PlainStructs) (m : Mark) (op : BinOp) (t : PlainType) (l : TypedLean) (y : TypedExpr) → Grows s c.structs → IsTypedLean c l → IsValue c y → Fine (IsChecked c) (update_types s m op t (value_type y) l y)
  types_fine s m op (type.Int a) l (expr.Typed line (type.Int b) n) g h i = updated_fine m op a b l (expr.Typed line (type.Int b) n) h tt i
  types_fine s m Add (type.Pointer t) l (expr.Typed line (type.Int b) n) g h i = pointer_fine s m t false l (expr.Typed line (type.Int b) n) g h tt i
  types_fine s m Sub (type.Pointer t) l (expr.Typed line (type.Int b) n) g h i = pointer_fine s m t true l (expr.Typed line (type.Int b) n) g h tt i
  types_fine s m op t l (expr.Typed line u n) g h i = tt

  update_fine : (s : PlainStructs) (m : Mark) (op : BinOp) (x y : Checked) → Grows s c.structs → IsChecked c x → IsChecked c y → Fine (IsChecked c) (update_rule s m op x y)
  update_fine s m op (checked.Place line t l) y g h i = types_fine s m op t l (value y) g h.1 (value_is c y i)
  update_fine s m op (checked.NullPointer bare v) y g h i = tt
  update_fine s m op (checked.Plain v) y g h i = tt

  assignment_fine : (s : PlainStructs) (m : Mark) (op : Sign) (first : ℕ) (x y : Checked) → Grows s c.structs → IsChecked c x → IsChecked c y → Fine (IsChecked c) (assignment_rule s m op first x y)
  assignment_fine s m sign.Assign first x y g h i = assign_fine s m first x y g h i
  assignment_fine s m sign.StarAssign first x y g h i = update_fine s m Mul x y g h i
  assignment_fine s m sign.SlashAssign first x y g h i = update_fine s m Div x y g h i
  assignment_fine s m sign.PercentAssign first x y g h i = update_fine s m Rem x y g h i
  assignment_fine s m sign.PlusAssign first x y g h i = update_fine s m Add x y g h i
  assignment_fine s m sign.MinusAssign first x y g h i = update_fine s m Sub x y g h i
  assignment_fine s m sign.ShlAssign first x y g h i = update_fine s m Shl x y g h i
  assignment_fine s m sign.ShrAssign first x y g h i = update_fine s m Shr x y g h i
  assignment_fine s m sign.AmpAssign first x y g h i = update_fine s m And x y g h i
  assignment_fine s m sign.CaretAssign first x y g h i = update_fine s m Xor x y g h i
  assignment_fine s m sign.BarAssign first x y g h i = update_fine s m Or x y g h i
  assignment_fine s m _ first x y g h i = tt

  -- ---- the comma operator

  -- a value that is no structure is well typed
  pub no_struct : (e : TypedExpr) → IsValue c e → is_struct (value_type e) ≡ false → IsWellTyped c e
  no_struct (expr.Typed line type.Void n) h i = h
  no_struct (expr.Typed line (type.Int k) n) h i = h
  no_struct (expr.Typed line (type.Pointer t) n) h i = h
  no_struct (expr.Typed line (type.Array t k) n) h i = h
  no_struct (expr.Typed line (type.Struct k) n) h i = absurd (cc)

  comma_fine : (m : Mark) (x y : Checked) → IsChecked c x → IsChecked c y → Fine (IsChecked c) (comma_rule m x y)
  comma_fine m x y h i =
      fine_if (IsChecked c) (is_struct (value_type (value x))) _ _
      (λ struct. tt)
      (λ first. fine_if (IsChecked c) (is_struct (value_type (value y))) _ _
      (λ struct. tt)
      (λ second. (agrees_same (value_type (value y)), no_struct (value x) (value_is c x h) first, no_struct (value y) (value_is c y i) second)))

  pub join_fine : (s : PlainStructs) (m : Mark) (op : Infix) (first : ℕ) (x y : Checked) → Grows s c.structs → IsChecked c x → IsChecked c y → Fine (IsChecked c) (join_rule s m op first x y)
  join_fine s m joint.Comma first x y g h i = comma_fine m x y h i
  join_fine s m (joint.Assign op) first x y g h i = assignment_fine s m op first x y g h i
  join_fine s m (joint.Binary op) first x y g h i = binary_fine c s m op x y g h i
