-- The value of a constant expression that is well typed is a number of its type.
use Rattle.std.proofs.Common.{◌≡◌, Bool, true, false, Option, Some, None, option_map, Result, Ok, Err, sym, subst, arith}
use Rattle.std.specs.Prelude.{ℤ, pos, IfSome, IfOk, if◌then◌else◌}
use Rattle.std.proofs.lemmas.Int.{ints}
use Rattle.ob_words.specs.declared.types.IntType.{IntType}
use Rattle.ob_words.specs.declared.types.IntType.TheVariants.{Int}
use Rattle.ob_words.specs.declared.types.BinOp.{BinOp}
use Rattle.ob_words.specs.declared.types.DivideByZero.{DivideByZero}
use Rattle.ob_words.specs.Types.{IsNumber}
use Rattle.ob_words.specs.Conversion.{IsConversion, convert}
use Rattle.ob_words.specs.Operators.{binary}
use Rattle.ob_tree.specs.Types.{PlainType}
use Rattle.ob_tree.specs.Types.{PlainType as type}
use Rattle.ob_typed.specs.TypedTree.{TypedExpr}
use Rattle.ob_typed.specs.TypedTree.{TypedExpr as expr, TypedNode as node}
use Rattle.ob_typed.specs.ConstantValues.{and_value, arith_value, compare_value, cond_value, constant, evaluated, is_constant_form, is_true, or_value, quotient, right_value, truth, truth_value}
use Rattle.ob_typed.specs.Conversions.{value_type}
use Rattle.ob_typed.specs.WellTyped.{Agrees, Around, IsNumberOf, IsWellTyped}

-- what the laws on arithmetic say
abbrev pub Converts : Type 0
Converts = (t : IntType) (n : ℤ) → IsConversion t n (convert t n)

abbrev pub Computes : Type 0
Computes = (op : BinOp) (t : IntType) (a b : ℤ) → IfOk (binary op t a b) (IsNumber t)

truth_is : (b : Bool) → IsNumber Int (truth b)
truth_is true = record { from_least = omega (arith, ints); below_past = omega (arith, ints) }
truth_is false = record { from_least = omega (arith, ints); below_past = omega (arith, ints) }

truth_of : (o : Option ℤ) → IfSome (truth_value o) (IsNumber Int)
truth_of None = tt
truth_of (Some z) = truth_is (is_true z)

converted : Converts → (k : IntType) (o : Option ℤ) → IfSome (option_map (convert k) o) (IsNumber k)
converted law k None = tt
converted law k (Some z) = (law k z).is_number

quotient_is : (k : IntType) (r : Result ℤ DivideByZero) → IfOk r (IsNumber k) → IfSome (quotient r) (IsNumber k)
quotient_is k (Ok z) h = h
quotient_is k (Err e) h = tt

arith_is : Computes → (op : BinOp) (k : IntType) (x y : Option ℤ) → IfSome (arith_value op k x y) (IsNumber k)
arith_is law op k (Some a) (Some b) = quotient_is k (binary op k (convert k a) (right_value op k b)) (law op k (convert k a) (right_value op k b))
arith_is law op k (Some a) None = tt
arith_is law op k None y = tt

compare_is : (r : _) (x y : Option ℤ) → IfSome (compare_value r x y) (IsNumber Int)
compare_is r (Some a) (Some b) = truth_is _
compare_is r (Some a) None = tt
compare_is r None y = tt

either_is : (b : Bool) (x y : Option ℤ) (P : ℤ → Type 0) → IfSome x P → IfSome y P → IfSome (if b then x else y) P
either_is true x y P h k = h
either_is false x y P h k = k

and_is : (x y : Option ℤ) → IfSome (and_value x y) (IsNumber Int)
and_is None y = tt
and_is (Some a) y = either_is (is_true a) (truth_value y) (Some (pos 0)) (IsNumber Int) (truth_of y) (truth_is false)

or_is : (x y : Option ℤ) → IfSome (or_value x y) (IsNumber Int)
or_is None y = tt
or_is (Some a) y = either_is (is_true a) (Some (pos 1)) (truth_value y) (IsNumber Int) (truth_is true) (truth_of y)

cond_is : (P : ℤ → Type 0) (z x y : Option ℤ) → IfSome x P → IfSome y P → IfSome (cond_value z x y) P
cond_is P None x y h k = tt
cond_is P (Some c) x y h k = either_is (is_true c) x y P h k

-- a number of type k is one of a type that is k
as_type : (t : PlainType) (k : IntType) (o : Option ℤ) → t ≡ type.Int k → IfSome o (IsNumber k) → IfSome o (IsNumberOf t)
as_type t k o is h = subst (λ (u : PlainType). IfSome o (IsNumberOf u)) (sym is) h

-- a value of a type that agrees with another, which has one where that is a number's
of_agreeing : (t u : PlainType) (o : Option ℤ) → Agrees t u → IfSome o (IsNumberOf u) → IfSome o (IsNumberOf t)
of_agreeing type.Void u o is h = subst (λ (v : PlainType). IfSome o (IsNumberOf v)) (sym is) h
of_agreeing (type.Int k) u o is h = subst (λ (v : PlainType). IfSome o (IsNumberOf v)) (sym is) h
of_agreeing (type.Array t n) u o is h = subst (λ (v : PlainType). IfSome o (IsNumberOf v)) (sym is) h
of_agreeing (type.Struct n) u o is h = subst (λ (v : PlainType). IfSome o (IsNumberOf v)) (sym is) h
of_agreeing (type.Pointer t) (type.Pointer u) o is h = h
of_agreeing (type.Pointer t) type.Void o is h = subst (λ (v : PlainType). IfSome o (IsNumberOf v)) (sym is) h
of_agreeing (type.Pointer t) (type.Int k) o is h = subst (λ (v : PlainType). IfSome o (IsNumberOf v)) (sym is) h
of_agreeing (type.Pointer t) (type.Array u n) o is h = subst (λ (v : PlainType). IfSome o (IsNumberOf v)) (sym is) h
of_agreeing (type.Pointer t) (type.Struct n) o is h = subst (λ (v : PlainType). IfSome o (IsNumberOf v)) (sym is) h

of_type : (t u : PlainType) (o : Option ℤ) → t ≡ u → IfSome o (IsNumberOf u) → IfSome o (IsNumberOf t)
of_type t u o is h = subst (λ (v : PlainType). IfSome o (IsNumberOf v)) (sym is) h

value_number : Converts → Computes → (a : Around) (e : TypedExpr) → IsWellTyped a e → IfSome (evaluated e) (IsNumberOf (value_type e))
value_number c o m (expr.Typed l t (node.Num z)) w = w
value_number c o m (expr.Typed l t (node.Convert k e)) w = as_type t k (option_map (convert k) (evaluated e)) w.0 (converted c k (evaluated e))
value_number c o m (expr.Typed l t (node.Arith op k a b)) w = as_type t k (arith_value op k (evaluated a) (evaluated b)) w.0 (arith_is o op k (evaluated a) (evaluated b))
value_number c o m (expr.Typed l t (node.Compare r a b)) w = as_type t Int (compare_value r (evaluated a) (evaluated b)) w.0 (compare_is r (evaluated a) (evaluated b))
value_number c o m (expr.Typed l t (node.And a b)) w = as_type t Int (and_value (evaluated a) (evaluated b)) w.0 (and_is (evaluated a) (evaluated b))
value_number c o m (expr.Typed l t (node.Or a b)) w = as_type t Int (or_value (evaluated a) (evaluated b)) w.0 (or_is (evaluated a) (evaluated b))
value_number c o m (expr.Typed l t (node.Cond z a b)) w =
    let agrees = w.2 in
    let same = w.3 in
    let yes = value_number c o m a w.5 in
    let other = value_number c o m b w.6 in
    cond_is (IsNumberOf t) (evaluated z) (evaluated a) (evaluated b)
    (of_agreeing t (value_type a) (evaluated a) agrees yes)
    (of_agreeing t (value_type a) (evaluated b) agrees (of_type (value_type a) (value_type b) (evaluated b) same other))
value_number c o m (expr.Typed l t node.Null) w = tt
value_number c o m (expr.Typed l t (node.Read p)) w = tt
value_number c o m (expr.Typed l t (node.Lean p)) w = tt
value_number c o m (expr.Typed l t (node.ToVoid e)) w = tt
value_number c o m (expr.Typed l t (node.PtrCompare r a b)) w = tt
value_number c o m (expr.Typed l t (node.PtrDiff n a b)) w = tt
value_number c o m (expr.Typed l t (node.Comma a b)) w = tt
value_number c o m (expr.Typed l t (node.Assign p e)) w = tt
value_number c o m (expr.Typed l t (node.Update op k post p e)) w = tt
value_number c o m (expr.Typed l t (node.PtrUpdate n minus post p e)) w = tt
value_number c o m (expr.Typed l t (node.CopyStruct p q)) w = tt
value_number c o m (expr.Typed l t (node.Call n es)) w = tt
value_number c o m (expr.Typed l t (node.CallBuiltin b es)) w = tt

pub constant_number : Converts → Computes → (a : Around) (e : TypedExpr) → IsWellTyped a e → IfSome (constant e) (IsNumberOf (value_type e))
constant_number c o a e w = either_is (is_constant_form e) (evaluated e) None (IsNumberOf (value_type e)) (value_number c o a e w) tt
