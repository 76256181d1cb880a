-- Expressions give values of their types.
use Rattle.std.proofs.Common.{◌≡◌, ℕ, ◌+◌, ◌*◌, Bool, true, false, ℤ, pos, ◌+ℤ◌, List, [], ◌∷◌, Ok, Err, if◌then◌else◌, sym, subst, ◌∙◌, ◌&&◌}
use Rattle.std.specs.Ordering.{int_eq}
use Rattle.ob_words.specs.declared.types.BinOp.{BinOp}
use Rattle.ob_words.specs.declared.types.IntType.{IntType}
use Rattle.ob_words.specs.declared.types.IntType.TheVariants as type
use Rattle.ob_words.specs.Conversion.{convert}
use Rattle.ob_words.specs.Operators.{binary, compare, divide_by_zero, divides, exact, shifts}
use Rattle.ob_words.proofs.Conversions.{convert_number}
use Rattle.ob_model.specs.declared.endings.Ending.TheVariants.{Divide, Ended}
use Rattle.ob_model.specs.declared.values.Value.{Value}
use Rattle.ob_model.specs.declared.values.Value.TheVariants as value_of
use Rattle.ob_tree.specs.Types.{PlainType}
use Rattle.ob_typed.specs.declared.names.Builtin.{Builtin}
use Rattle.ob_typed.specs.declared.names.Builtin.TheVariants as builtin
use Rattle.ob_typed.specs.TypedTree.{TypedExpr, TypedExprs, TypedLean, TypedNode}
use Rattle.ob_typed.specs.TypedTree.TypedExpr.{Typed as typed}
use Rattle.ob_typed.specs.TypedTree.TypedExprs.{NoArguments, Argument}
use Rattle.ob_typed.specs.TypedTree.{TypedLean as at, TypedNode as node}
use Rattle.ob_typed.specs.TypedTree.TypedPlace.{Place}
use Rattle.ob_meaning.specs.Expressions.{Based, arithmetic, argument, at_object, at_value, based, built_in, comparison, computed, converted, copy_scalar, copy_scalars, further, load_based, node_value, older_if, right_operand, store_based, tested, value, values}
use Rattle.ob_meaning.specs.Heap.{byte_count}
use Rattle.ob_meaning.specs.Pointers.{stride}
use Rattle.ob_meaning.specs.Scalars.{Scalar, scalars_of}
use Rattle.ob_meaning.specs.Setup.{Below, Flow, next, broke, continued, gave, Loop, Setup, expression_type, first_local, function_at, kind_of, number_type, running}
use Rattle.ob_meaning.specs.Values.{is_true, nothing, number_of, truth}
use Rattle.ob_meaning.specs.ValueTypes.{AreArguments, AreTyped, AreValues, Class, GivesIn, HasClass, IsScalar, IsTyped, IsTypedLean, IsTypedNode, IsTypedOption, IsTypedStmt, builtin_class, class_of, class_of_expression, none}
use Rattle.ob_meaning.specs.ValueTypes as class
use Rattle.ob_meaning.specs.World.{Call, World, Run, go, bind}
use Rattle.ob_meaning.proofs.TypedActs.{OfKind, Typed, truth_is, typed_bind, typed_choose, typed_formed, typed_go, typed_step, typed_stop, typed_weaken}
use Rattle.ob_meaning.proofs.TypedAccesses.{Any, class_kind, kind_class, typed_load, typed_store}
use Rattle.ob_meaning.proofs.TypedPointers.{typed_allocated, typed_compared, typed_free, typed_move, typed_read, typed_subtracted, typed_write}

-- ---- what calls and turns give after a step

abbrev pub FlowIs : Class → Flow → Type 0
FlowIs c next = Unit {0}
FlowIs c broke = Unit {0}
FlowIs c continued = Unit {0}
FlowIs c (gave v) = HasClass c v

abbrev pub result_class : Setup → List Call → Class
result_class u calls = class_of (running u calls).result

pub record TypedBelow (u : Setup) (m : Below) : Type 0 where
  pub call : (calls : List Call) (f : ℕ) (vs : List Value) → AreValues (function_at u f).locals vs → Typed calls (HasClass (class_of (function_at u f).result)) (m.call f vs)
  pub turns : (calls : List Call) (loop : Loop) → IsTypedOption u loop.test → IsTypedOption u loop.after → IsTypedStmt u (running u calls) loop.body → Typed calls (FlowIs (result_class u calls)) (m.turns loop)

module _ (u : Setup) (calls : List Call) where
  pub as_class : (c d : Class) (f : World → Run Value) → c ≡ d → Typed calls (HasClass d) f → Typed calls (HasClass c) f
  as_class c d f e s = subst (λ x. Typed calls (HasClass x) f) (sym e) s

  abbrev AnyPlace : Based → Type 0
  AnyPlace b = Unit {0}

  pub typed_further : (b : Based) (d : ℤ) → Typed calls AnyPlace (further b d)
  typed_further b d = typed_formed calls AnyPlace (b.displacement +ℤ d) _ (λ e. typed_go calls AnyPlace (record { base = b.base; displacement = e }) tt)

  pub typed_load_based : (ty : PlainType) (line : ℕ) (b : Based) → Typed calls (HasClass (class_of ty)) (load_based u ty line b)
  typed_load_based ty line b =
      typed_weaken calls (OfKind (kind_of ty)) (HasClass (class_of ty)) _ (kind_class ty) (typed_load calls u.rule u.cycle (kind_of ty) line b.base b.displacement)

  pub typed_store_based : (ty : PlainType) (line : ℕ) (b : Based) (v : Value) → IsScalar (class_of ty) → HasClass (class_of ty) v → Typed calls (HasClass (class_of ty)) (store_based u ty line b v)
  typed_store_based ty line b v s h =
      typed_bind calls Any (HasClass (class_of ty)) _ _ (typed_store calls u.rule (kind_of ty) line b.base b.displacement v (class_kind ty v s h)) (λ none i. typed_go calls (HasClass (class_of ty)) v h)

  typed_copy : (line : ℕ) (to from : Based) (x : Scalar) → Typed calls Any (copy_scalar u line to from x)
  typed_copy line to from x =
      typed_formed calls Any (from.displacement +ℤ pos x.offset) _ (λ d.
      typed_bind calls (OfKind x.kind) Any _ _ (typed_load calls u.rule u.cycle x.kind line from.base d) (λ v h.
      typed_formed calls Any (to.displacement +ℤ pos x.offset) _ (λ e. typed_store calls u.rule x.kind line to.base e v h)))

  pub typed_copies : (line : ℕ) (to from : Based) (xs : List Scalar) → Typed calls Any (copy_scalars u line to from xs)
  typed_copies line to from [] = typed_go calls Any nothing tt
  typed_copies line to from (x ∷ xs) =
      typed_bind calls Any Any _ _ (typed_copy line to from x) (λ none h. typed_copies line to from xs)

  -- ---- numbers

  typed_computed : (op : BinOp) (t : IntType) (a b : ℤ) → Typed calls (HasClass (class.number t)) (computed (binary op t a b))
  typed_computed op t a b = by_test (divides op && int_eq b (pos 0))
    where
      by_test : (z : Bool) → Typed calls (HasClass (class.number t)) (computed (if z then Err divide_by_zero else Ok (convert t (exact op t a b))))
      by_test true = typed_stop calls (HasClass (class.number t)) Divide
      by_test false = typed_go calls (HasClass (class.number t)) (value_of.Num (convert t (exact op t a b))) (convert_number t (exact op t a b))

  typed_arithmetic : (op : BinOp) (t : IntType) (x y : Value) → Typed calls (HasClass (class.number t)) (arithmetic op t x y)
  typed_arithmetic op t x y =
      typed_computed op t (number_of (converted t x)) (number_of (right_operand (shifts op) t y))

  typed_built_in : (line : ℕ) (f : Builtin) (vs : List Value) → Typed calls (HasClass (builtin_class f)) (built_in u line f vs)
  typed_built_in line builtin.GetChar vs = typed_read calls u.input_end
  typed_built_in line builtin.PutChar vs = typed_write calls (argument vs 0)
  typed_built_in line builtin.Malloc vs = typed_allocated calls u.settings.heap (byte_count (argument vs 0))
  typed_built_in line builtin.Calloc vs =
      typed_allocated calls u.settings.heap (byte_count (argument vs 0) * byte_count (argument vs 1))
  typed_built_in line builtin.Free vs = typed_free calls u.settings.profile line (argument vs 0)
  typed_built_in line builtin.Exit vs = typed_stop calls Any (Ended (convert type.Int (number_of (argument vs 0))))

  older_is : (post : Bool) (c : Class) (old new : Value) → HasClass c old → HasClass c new → HasClass c (older_if post old new)
  older_is true c old new h i = h
  older_is false c old new h i = i

  typed_local : (i : ℕ) → Typed calls AnyPlace (λ w. go (at_object (first_local w.calls + i)) w)
  typed_local i = record { each = λ w ok. (tt, ok) }

  abbrev Int : Value → Type 0
  Int v = HasClass (class.number type.Int) v

  abbrev AnyList : List Value → Type 0
  AnyList vs = Unit {0}

  typed_two : (P Q R : Value → Type 0) (f g : World → Run Value) (k : Value → Value → World → Run Value) → Typed calls P f → Typed calls Q g → ((x y : Value) → Typed calls R (k x y)) → Typed calls R (λ w. bind (f w) (λ x w1. bind (g w1) (k x)))
  typed_two P Q R f g k s t each =
      typed_bind calls P R f _ s (λ x i. typed_bind calls Q R g (k x) t (λ y j. each x y))

  typed_test : (P : Value → Type 0) (f : World → Run Value) → Typed calls P f → Typed calls Int (λ w. tested (f w))
  typed_test P f s = typed_bind calls P Int f _ s (λ y i. typed_go calls Int (truth (is_true y)) (truth_is (is_true y)))

  module _ (m : Below) (below : TypedBelow u m) where
    mutual
      pub typed_value : (e : TypedExpr) → IsTyped u e → Typed calls (HasClass (class_of_expression e)) (value u m e)
      typed_value (typed line ty what) h = typed_node line (class_of ty) what h

      typed_node : (line : ℕ) (c : Class) (what : TypedNode) → IsTypedNode u c what → Typed calls (HasClass c) (node_value u m line what)
      typed_node line c (node.Num n) h = typed_go calls (HasClass c) (value_of.Num n) h.0
      typed_node line c node.Null h = as_class c class.pointer _ h (typed_go calls (HasClass class.pointer) value_of.Null tt)
      typed_node line c (node.Read (Place own_line ty lean)) h =
          as_class c (class_of ty) _ (sym h.0) (typed_bind calls AnyPlace (HasClass (class_of ty)) _ _ (typed_based lean h.1) (λ b i. typed_load_based ty line b))
      typed_node line c (node.Lean lean) h =
          as_class c class.pointer _ h.0 (typed_bind calls AnyPlace (HasClass class.pointer) _ _ (typed_based lean h.1) (λ b i. typed_move calls u.settings.away line b.base b.displacement))
      typed_node line c (node.Convert t e) h =
          as_class c (class.number t) _ h.0 (typed_bind calls (HasClass (class_of_expression e)) (HasClass (class.number t)) _ _ (typed_value e h.1) (λ x i. typed_go calls (HasClass (class.number t)) (converted t x) (convert_number t (number_of x))))
      typed_node line c (node.ToVoid e) h =
          as_class c none _ h.0 (typed_bind calls (HasClass (class_of_expression e)) (HasClass none) _ _ (typed_value e h.1) (λ x i. typed_go calls (HasClass none) nothing tt))
      typed_node line c (node.Arith op t a b) h =
          as_class c (class.number t) _ h.0 (typed_two _ _ (HasClass (class.number t)) _ _ _ (typed_value a h.1) (typed_value b h.2) (λ x y. typed_arithmetic op t x y))
      typed_node line c (node.Compare r a b) h =
          as_class c (class.number type.Int) _ h.0 (typed_two _ _ Int _ _ _ (typed_value a h.1) (typed_value b h.2) (λ x y.
          typed_go calls Int (comparison r (number_type (expression_type a)) x y) (truth_is (compare r (number_of (converted (number_type (expression_type a)) x)) (number_of (converted (number_type (expression_type a)) y))))))
      typed_node line c (node.PtrCompare r a b) h =
          as_class c (class.number type.Int) _ h.0 (typed_two _ _ Int _ _ _ (typed_value a h.1) (typed_value b h.2) (λ x y. typed_compared calls r line x y))
      typed_node line c (node.PtrDiff size a b) h =
          as_class c (class.number type.Long) _ h.0 (typed_two _ _ (HasClass (class.number type.Long)) _ _ _ (typed_value a h.1) (typed_value b h.2) (λ x y. typed_subtracted calls size line x y))
      typed_node line c (node.And a b) h =
          as_class c (class.number type.Int) _ h.0 (typed_bind calls (HasClass (class_of_expression a)) Int _ _ (typed_value a h.1) (λ x i.
          typed_choose calls Int (is_true x) _ _ (typed_test _ _ (typed_value b h.2)) (typed_go calls Int (truth false) (truth_is false))))
      typed_node line c (node.Or a b) h =
          as_class c (class.number type.Int) _ h.0 (typed_bind calls (HasClass (class_of_expression a)) Int _ _ (typed_value a h.1) (λ x i.
          typed_choose calls Int (is_true x) _ _ (typed_go calls Int (truth true) (truth_is true)) (typed_test _ _ (typed_value b h.2))))
      typed_node line c (node.Cond a b d) h =
          typed_bind calls (HasClass (class_of_expression a)) (HasClass c) _ _ (typed_value a h.2) (λ x i.
          typed_choose calls (HasClass c) (is_true x) _ _ (as_class c (class_of_expression b) _ (sym h.0) (typed_value b h.3)) (as_class c (class_of_expression d) _ (sym h.1) (typed_value d h.4)))
      typed_node line c (node.Comma a b) h =
          typed_bind calls (HasClass (class_of_expression a)) (HasClass c) _ _ (typed_value a h.1) (λ x i.
          as_class c (class_of_expression b) _ (sym h.0) (typed_value b h.2))
      typed_node line c (node.Assign (Place own_line ty lean) e) h =
          as_class c (class_of ty) _ (sym h.0) (typed_bind calls AnyPlace (HasClass (class_of ty)) _ _ (typed_based lean h.3) (λ b i.
          typed_bind calls (HasClass (class_of_expression e)) (HasClass (class_of ty)) _ _ (typed_value e h.4) (λ v j.
          typed_store_based ty line b v (subst IsScalar (sym h.0) h.2) (subst (λ k. HasClass k v) (h.1 ∙ sym h.0) j))))
      typed_node line c (node.Update op t post (Place own_line ty lean) e) h =
          let number : class_of ty ≡ class.number (number_type ty) = h.0 ∙ h.1 in
          as_class c (class_of ty) _ (sym h.0) (typed_bind calls AnyPlace (HasClass (class_of ty)) _ _ (typed_based lean h.2) (λ b i.
          typed_bind calls (HasClass (class_of ty)) (HasClass (class_of ty)) _ _ (typed_load_based ty line b) (λ x j.
          typed_bind calls (HasClass (class_of_expression e)) (HasClass (class_of ty)) _ _ (typed_value e h.3) (λ y k.
          typed_bind calls (HasClass (class.number t)) (HasClass (class_of ty)) _ _ (typed_arithmetic op t x y) (λ z l.
          let new : HasClass (class_of ty) (converted (number_type ty) z) = subst (λ d. HasClass d (converted (number_type ty) z)) (sym number) (convert_number (number_type ty) (number_of z)) in
          typed_bind calls (HasClass (class_of ty)) (HasClass (class_of ty)) _ _ (typed_store_based ty line b (converted (number_type ty) z) (subst IsScalar (sym number) tt) new) (λ v o.
          typed_go calls (HasClass (class_of ty)) (older_if post x v) (older_is post (class_of ty) x v j o)))))))
      typed_node line c (node.PtrUpdate scale minus post (Place own_line ty lean) e) h =
          let pointer : class_of ty ≡ class.pointer = h.0 ∙ h.1 in
          as_class c (class_of ty) _ (sym h.0) (typed_bind calls AnyPlace (HasClass (class_of ty)) _ _ (typed_based lean h.2) (λ b i.
          typed_bind calls (HasClass (class_of ty)) (HasClass (class_of ty)) _ _ (typed_load_based ty line b) (λ x j.
          typed_bind calls (HasClass (class_of_expression e)) (HasClass (class_of ty)) _ _ (typed_value e h.3) (λ n k.
          typed_formed calls (HasClass (class_of ty)) (stride minus scale (number_of n)) _ (λ d.
          typed_bind calls (HasClass class.pointer) (HasClass (class_of ty)) _ _ (typed_move calls u.settings.away line x d) (λ p l.
          typed_bind calls (HasClass (class_of ty)) (HasClass (class_of ty)) _ _ (typed_store_based ty line b p (subst IsScalar (sym pointer) tt) (subst (λ q. HasClass q p) (sym pointer) l)) (λ v o.
          typed_go calls (HasClass (class_of ty)) (older_if post x v) (older_is post (class_of ty) x v j o))))))))
      typed_node line c (node.CopyStruct (Place own_line ty lean) (Place from_line from_type from_lean)) h =
          as_class c none _ h.0 (typed_bind calls AnyPlace Any _ _ (typed_based lean h.1) (λ to i.
          typed_bind calls AnyPlace Any _ _ (typed_based from_lean h.2) (λ from j.
          typed_copies line to from (scalars_of u.program.structs ty))))
      typed_node line c (node.Call f es) h =
          as_class c (class_of (function_at u f).result) _ (sym h.0) (typed_bind calls (AreValues (function_at u f).locals) (HasClass (class_of (function_at u f).result)) _ _ (typed_arguments (function_at u f).locals es h.1) (λ vs i.
          typed_step calls (HasClass (class_of (function_at u f).result)) _ (below.call calls f vs i)))
      typed_node line c (node.CallBuiltin f es) h =
          as_class c (builtin_class f) _ h.0 (typed_bind calls AnyList (HasClass (builtin_class f)) _ _ (typed_values es h.1) (λ vs i.
          typed_step calls (HasClass (builtin_class f)) _ (typed_built_in line f vs)))

      pub typed_based : (lean : TypedLean) → IsTypedLean u lean → Typed calls AnyPlace (based u m lean)
      typed_based (at.Static i) h = typed_go calls AnyPlace (at_object (i + 1)) tt
      typed_based (at.Local i) h = typed_local i
      typed_based (at.Value e) h =
          typed_bind calls (HasClass (class_of_expression e)) AnyPlace _ _ (typed_value e h) (λ p i. typed_go calls AnyPlace (at_value p) tt)
      typed_based (at.Slide lean scale minus false e) h =
          typed_bind calls AnyPlace AnyPlace _ _ (typed_based lean h.0) (λ b i.
          typed_bind calls (HasClass (class_of_expression e)) AnyPlace _ _ (typed_value e h.1) (λ n j. typed_further b (stride minus scale (number_of n))))
      typed_based (at.Slide lean scale minus true e) h =
          typed_bind calls (HasClass (class_of_expression e)) AnyPlace _ _ (typed_value e h.1) (λ n j.
          typed_bind calls AnyPlace AnyPlace _ _ (typed_based lean h.0) (λ b i. typed_further b (stride minus scale (number_of n))))
      typed_based (at.Member lean offset) h =
          typed_bind calls AnyPlace AnyPlace _ _ (typed_based lean h) (λ b i. typed_further b (pos offset))

      typed_values : (es : TypedExprs) → AreTyped u es → Typed calls AnyList (values u m es)
      typed_values NoArguments h = typed_go calls AnyList [] tt
      typed_values (Argument e es) h =
          typed_bind calls (HasClass (class_of_expression e)) AnyList _ _ (typed_value e h.0) (λ v i.
          typed_bind calls AnyList AnyList _ _ (typed_values es h.1) (λ vs j. typed_go calls AnyList (v ∷ vs) tt))

      typed_arguments : (ts : List PlainType) (es : TypedExprs) → AreArguments u ts es → Typed calls (AreValues ts) (values u m es)
      typed_arguments ts NoArguments h = typed_go calls (AreValues ts) [] tt
      typed_arguments [] (Argument e es) h = absurd h
      typed_arguments (t ∷ ts) (Argument e es) h =
          typed_bind calls (HasClass (class_of_expression e)) (AreValues (t ∷ ts)) _ _ (typed_value e h.2) (λ v i.
          typed_bind calls (AreValues ts) (AreValues (t ∷ ts)) _ _ (typed_arguments ts es h.3) (λ vs j.
          typed_go calls (AreValues (t ∷ ts)) (v ∷ vs) (subst (λ c. HasClass c v) h.0 i, h.1, j)))
