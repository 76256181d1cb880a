-- What the rules of names and postfix expressions (C99 6.5.1, 6.5.2) give is well typed.
use Rattle.std.proofs.Common.{◌≡◌, ℕ, Bool, true, false, Option, Some, None, List, [], ◌∷◌, ◌++◌, pos, refl, sym, subst, slice_get, take}
use Rattle.std.specs.Prelude.{IsTrue, if◌then◌else◌}
use Rattle.std.proofs.lemmas.List.{append-nil, append_assoc}
use Rattle.ob_words.specs.declared.types.IntType.{IntType}
use Rattle.ob_words.specs.declared.types.IntType.TheVariants.{Int}
use Rattle.ob_words.specs.declared.types.BinOp.TheVariants.{Add, Sub}
use Rattle.ob_words.specs.Types.{common}
use Rattle.ob_tree.specs.Sizes.{MemberPlace, member, most_bytes}
use Rattle.ob_tree.specs.Trees.{Mark}
use Rattle.ob_tree.specs.Types.{PlainStructs, PlainType}
use Rattle.ob_tree.specs.Types.{PlainType as type}
use Rattle.ob_typed.specs.Completeness.{is_object_type}
use Rattle.ob_typed.specs.Conversions.{Checked, as_int, as_type, fits, is_null, value, value_type}
use Rattle.ob_typed.specs.Conversions.{Checked as checked}
use Rattle.ob_typed.specs.Expressions.{meaning_of, number_from}
use Rattle.ob_typed.specs.Places.{pointed_to, stepped}
use Rattle.ob_typed.specs.PostfixRules.{Argument, any_unusable, arrow_rule, builtin_params, builtin_result, call_meant, call_rule, called, element, expr_list, index_rule, meant, member_found, member_of, member_rule, name_rule, number, passed, step_rule, step_type}
use Rattle.ob_typed.specs.Scopes.{Declared, Meaning}
use Rattle.ob_typed.specs.Scopes.{Meaning as meaning}
use Rattle.ob_typed.specs.Functions.{is_one_of}
use Rattle.ob_typed.specs.TypedTree.{TypedExpr, TypedExprs, TypedFunction, TypedLean, TypedNode}
use Rattle.ob_typed.specs.TypedTree.{TypedExpr as expr, TypedNode as node, TypedPlace as place}
use Rattle.ob_typed.specs.WellTyped.{Agrees, AreTyped, Around, HasResult, IsInt, IsPointer, IsTypedLean, IsTypedNode, IsWellTyped, params_of}
use Rattle.ob_typed.proofs.ConvertedValues.{IsChecked, IsConverted, IsPlaceType, IsValue, agrees_same, fitted, int_typed, number_one, pointed_typed, value_is}
use Rattle.ob_typed.proofs.GrowingStructs.{AreSound, Grows, size_of}
use Rattle.ob_typed.proofs.MembersOfStructs.{IsMember, member_typed, place_of_object}
use Rattle.ob_typed.proofs.Walks.{Fine, fine_if, fine_then}

-- ---- what names stand for

-- the function of a number has this result and these parameters
abbrev pub IsFunction : Option TypedFunction → (result : PlainType) → List PlainType → Type 0
IsFunction None result params = ⊥
IsFunction (Some f) result params = Agrees result f.result × (take f.params f.locals ≡ params)

-- An object is a place, and a function that has a body is among the functions, by the number that its name has among
-- those that are numbered.
abbrev pub IsMeant : Around → (numbered bodies : List (List ℕ)) → (name : List ℕ) → Option Meaning → Type 0
IsMeant c numbered bodies name None = Unit {0}
IsMeant c numbered bodies name (Some (meaning.Variable t l)) = IsPlaceType t × IsTypedLean c l
IsMeant c numbered bodies name (Some (meaning.Function result params)) =
    IsTrue (is_one_of name bodies) → IsFunction (slice_get c.functions (number_from 0 name numbered)) result params
IsMeant c numbered bodies name (Some (meaning.BuiltIn b)) = Unit {0}

-- a function that isn't built in has a body
abbrev pub HasBody : (bodies : List (List ℕ)) → (name : List ℕ) → Option Meaning → Type 0
HasBody bodies name None = Unit {0}
HasBody bodies name (Some (meaning.Variable t l)) = Unit {0}
HasBody bodies name (Some (meaning.Function result params)) = IsTrue (is_one_of name bodies)
HasBody bodies name (Some (meaning.BuiltIn b)) = Unit {0}

abbrev pub AreChecked : Around → List Argument → Type 0
AreChecked c [] = Unit {0}
AreChecked c (a ∷ given) = IsChecked c a.is × AreChecked c given

pub checked_more : (c : Around) (given : List Argument) (a : Argument) → AreChecked c given → IsChecked c a.is → AreChecked c (given ++ a ∷ [])
checked_more c [] a h i = (i, tt)
checked_more c (b ∷ given) a h i = (h.0, checked_more c given a h.1 i)

module _ (c : Around) where
  meant_fine : (numbered bodies : List (List ℕ)) (name : List ℕ) (m : Mark) (x : Meaning) → IsMeant c numbered bodies name (Some x) → Fine (IsChecked c) (meant m x)
  meant_fine numbered bodies name m (meaning.Variable t l) h = h
  meant_fine numbered bodies name m (meaning.Function result params) h = tt
  meant_fine numbered bodies name m (meaning.BuiltIn b) h = tt

  pub name_fine : (numbered bodies : List (List ℕ)) (name : List ℕ) (m : Mark) (o : Option Declared) → IsMeant c numbered bodies name (meaning_of o) → Fine (IsChecked c) (name_rule m o)
  name_fine numbered bodies name m None h = tt
  name_fine numbered bodies name m (Some d) h = meant_fine numbered bodies name m d.meaning h

  -- ---- elements

  pub stepped_typed : (s : PlainStructs) (t : PlainType) (minus number_first : Bool) (p n : TypedExpr) → Grows s c.structs → is_object_type s t ≡ true → IsPointer (value_type p) → IsWellTyped c p → IsInt (value_type n) → IsWellTyped c n → IsTypedLean c (stepped s t minus number_first p n)
  stepped_typed s t minus number_first p n g object is_pointer h is_int i =
      ((t, size_of s c.structs g t object), pointed_typed c p is_pointer h, is_int, i)

  element_fine : (s : PlainStructs) (m : Mark) (t : PlainType) (number_first : Bool) (p n : TypedExpr) → Grows s c.structs → IsPointer (value_type p) → IsWellTyped c p → IsInt (value_type n) → IsWellTyped c n → Fine (IsChecked c) (element s m t number_first p n)
  element_fine s m t number_first p n g is_pointer h is_int i =
      fine_if (IsChecked c) (is_object_type s t) _ _
      (λ object. (place_of_object s t object, stepped_typed s t false number_first p n g object is_pointer h is_int i))
      (λ not_object. tt)

  pub index_fine : (s : PlainStructs) (m : Mark) (x y : TypedExpr) → Grows s c.structs → IsValue c x → IsValue c y → Fine (IsChecked c) (index_rule s m x y)
  index_fine s m (expr.Typed line (type.Pointer t) n) (expr.Typed other (type.Int k) p) g h i =
      element_fine s m t false (expr.Typed line (type.Pointer t) n) (expr.Typed other (type.Int k) p) g tt h tt i
  index_fine s m (expr.Typed line (type.Int k) n) (expr.Typed other (type.Pointer u) p) g h i =
      element_fine s m u true (expr.Typed other (type.Pointer u) p) (expr.Typed line (type.Int k) n) g tt i tt h
  index_fine s m (expr.Typed line t n) (expr.Typed other u p) g h i = tt

  -- ---- members

  found_fine : (m : Mark) (l : TypedLean) (o : Option MemberPlace) → IsTypedLean c l → IsMember most_bytes o → Fine (IsChecked c) (member_found m l o)
  found_fine m l None h i = tt
  found_fine m l (Some p) h i = (i.0, (i.1, h))

  of_fine : (s : PlainStructs) (m : Mark) (t : PlainType) (l : TypedLean) (name : List ℕ) → AreSound s → IsTypedLean c l → Fine (IsChecked c) (member_of s m t l name)
  of_fine s m (type.Struct n) l name sound h = found_fine m l (member s n name) h (member_typed s n name sound)
  of_fine s m type.Void l name sound h = tt
  of_fine s m (type.Int k) l name sound h = tt
  of_fine s m (type.Pointer t) l name sound h = tt
  of_fine s m (type.Array t n) l name sound h = tt

  pub member_fine : (s : PlainStructs) (m : Mark) (x : Checked) (name : List ℕ) → AreSound s → IsChecked c x → Fine (IsChecked c) (member_rule s m x name)
  member_fine s m (checked.Place line t l) name sound h = of_fine s m t l name sound h.1
  member_fine s m (checked.NullPointer bare v) name sound h = tt
  member_fine s m (checked.Plain v) name sound h = tt

  pub arrow_fine : (s : PlainStructs) (m : Mark) (x : TypedExpr) (name : List ℕ) → AreSound s → IsValue c x → Fine (IsChecked c) (arrow_rule s m x name)
  arrow_fine s m (expr.Typed line (type.Pointer t) n) name sound h =
      of_fine s m t (pointed_to (expr.Typed line (type.Pointer t) n)) name sound (pointed_typed c (expr.Typed line (type.Pointer t) n) tt h)
  arrow_fine s m (expr.Typed line t n) name sound h = tt

  -- ---- steps

  stepped_int : (line : ℕ) (down post : Bool) (k : IntType) (l : TypedLean) → IsTypedLean c l → IsTypedNode c (type.Int k) (node.Update (if down then Sub else Add) (common k Int) post (place.Place line (type.Int k) l) (as_int (common k Int) (number line Int (pos 1))))
  stepped_int line true post k l h =
      let one = int_typed c (common k Int) (number line Int (pos 1)) tt number_one in
      ((k, refl, (Int, refl, one.0)), refl, (tt, h), one.1)
  stepped_int line false post k l h =
      let one = int_typed c (common k Int) (number line Int (pos 1)) tt number_one in
      ((k, refl, (Int, refl, one.0)), refl, (tt, h), one.1)

  type_fine : (s : PlainStructs) (m : Mark) (post down : Bool) (t : PlainType) (l : TypedLean) → Grows s c.structs → IsTypedLean c l → Fine (IsChecked c) (step_type s m post down t l)
  type_fine s m post down (type.Int k) l g h = stepped_int m.line down post k l h
  type_fine s m post down (type.Pointer t) l g h =
      fine_if (IsChecked c) (is_object_type s t) _ _
      (λ object. (tt, size_of s c.structs g t object, tt, (tt, h), number_one))
      (λ not_object. tt)
  type_fine s m post down type.Void l g h = tt
  type_fine s m post down (type.Array t n) l g h = tt
  type_fine s m post down (type.Struct n) l g h = tt

  pub step_fine : (s : PlainStructs) (m : Mark) (post down : Bool) (x : Checked) → Grows s c.structs → IsChecked c x → Fine (IsChecked c) (step_rule s m post down x)
  step_fine s m post down (checked.Place line t l) g h = type_fine s m post down t l g h.1
  step_fine s m post down (checked.NullPointer bare v) g h = tt
  step_fine s m post down (checked.Plain v) g h = tt

  -- ---- calls

  typed_more : (done : List TypedExpr) (ts : List PlainType) (e : TypedExpr) (t : PlainType) → AreTyped c (expr_list done) ts → IsConverted c t e → AreTyped c (expr_list (done ++ e ∷ [])) (ts ++ t ∷ [])
  typed_more [] [] e t h i = (i.0, i.1, tt)
  typed_more [] (u ∷ ts) e t h i = absurd h
  typed_more (d ∷ done) [] e t h i = absurd h
  typed_more (d ∷ done) (u ∷ ts) e t h i = (h.0, h.1, typed_more done ts e t h.2 i)

  abbrev AreFor : List PlainType → List TypedExpr → Type 0
  AreFor ts es = AreTyped c (expr_list es) ts

  passed_fine : (m : Mark) (done : List TypedExpr) (before : List PlainType) (given : List Argument) (ts : List PlainType) → AreTyped c (expr_list done) before → AreChecked c given → Fine (AreFor (before ++ ts)) (passed m done given ts)
  passed_fine m done before [] [] h i = subst (AreTyped c (expr_list done)) (sym (append-nil before)) h
  passed_fine m done before [] (t ∷ ts) h i = tt
  passed_fine m done before (a ∷ given) [] h i = tt
  passed_fine m done before (a ∷ given) (t ∷ ts) h i =
      fine_if (AreFor (before ++ t ∷ ts)) (fits a.is t) _ _
      (λ fit.
      let made = fitted c (is_null a.is) (value a.is) t (value_is c a.is i.0) fit in
      subst (λ us. Fine (AreFor us) (passed m (done ++ as_type (value a.is) t ∷ []) given ts)) (append_assoc before (t ∷ []) ts)
      (passed_fine m (done ++ as_type (value a.is) t ∷ []) (before ++ t ∷ []) given ts
      (typed_more done before (as_type (value a.is) t) t h made.1) i.1))
      (λ unfit. tt)

  called_fine : (m : Mark) (result : PlainType) (make : TypedExprs → TypedNode) (params : List PlainType) (given : List Argument) → AreChecked c given → ((es : TypedExprs) → AreTyped c es params → IsTypedNode c result (make es)) → Fine (IsChecked c) (called m result make (passed m [] given params))
  called_fine m result make params given h each =
      fine_then (AreFor params) (IsChecked c) (passed m [] given params) _ (passed_fine m [] [] given params tt h) (λ es i. each (expr_list es) i)

  result_is : (o : Option TypedFunction) (result : PlainType) (params : List PlainType) → IsFunction o result params → HasResult o result
  result_is None result params h = absurd h
  result_is (Some f) result params h = h.0

  params_are : (o : Option TypedFunction) (result : PlainType) (params : List PlainType) → IsFunction o result params → params_of o ≡ params
  params_are None result params h = absurd h
  params_are (Some f) result params h = h.1

  call_node : (n : ℕ) (result : PlainType) (params : List PlainType) → IsFunction (slice_get c.functions n) result params → (es : TypedExprs) → AreTyped c es params → IsTypedNode c result (node.Call n es)
  call_node n result params h es i =
      let o = slice_get c.functions n in
      (result_is o result params h, subst (AreTyped c es) (sym (params_are o result params h)) i)

  meant_call : (numbered bodies : List (List ℕ)) (name : List ℕ) (m : Mark) (x : Meaning) (given : List Argument) → IsMeant c numbered bodies name (Some x) → HasBody bodies name (Some x) → AreChecked c given → Fine (IsChecked c) (call_meant m (number_from 0 name numbered) x given)
  meant_call numbered bodies name m (meaning.Variable t l) given h known i = tt
  meant_call numbered bodies name m (meaning.Function result params) given h known i =
      called_fine m result (node.Call (number_from 0 name numbered)) params given i (call_node (number_from 0 name numbered) result params (h known))
  meant_call numbered bodies name m (meaning.BuiltIn b) given h known i =
      called_fine m (builtin_result b) (node.CallBuiltin b) (builtin_params b) given i (λ es typed. (agrees_same (builtin_result b), typed))

  pub call_fine : (numbered bodies : List (List ℕ)) (name : List ℕ) (m : Mark) (o : Option Declared) (given : List Argument) → IsMeant c numbered bodies name (meaning_of o) → HasBody bodies name (meaning_of o) → AreChecked c given → Fine (IsChecked c) (call_rule m (number_from 0 name numbered) o given)
  call_fine numbered bodies name m None given h known i = tt
  call_fine numbered bodies name m (Some d) given h known i =
      fine_if (IsChecked c) (any_unusable given) _ _ (λ unusable. tt) (λ usable. meant_call numbered bodies name m d.meaning given h known i)
