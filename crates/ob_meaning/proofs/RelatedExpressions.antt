-- A relation that acts keep holds of expressions.
use Rattle.std.proofs.Common.{ℕ, ◌+◌, ◌*◌, Bool, true, false, ℤ, pos, ◌+ℤ◌, List, [], ◌∷◌, Result, Ok, Err, if◌then◌else◌}
use Rattle.ob_words.specs.declared.types.BinOp.{BinOp}
use Rattle.ob_words.specs.declared.types.DivideByZero.{DivideByZero}
use Rattle.ob_words.specs.declared.types.IntType.{IntType}
use Rattle.ob_words.specs.declared.types.IntType.TheVariants.{Int}
use Rattle.ob_words.specs.Conversion.{convert}
use Rattle.ob_words.specs.Operators.{binary, shifts}
use Rattle.ob_model.specs.declared.endings.Ending.TheVariants.{Divide, Ended, Far}
use Rattle.ob_model.specs.declared.values.Value.{Value}
use Rattle.ob_model.specs.declared.values.Value.TheVariants as value_of
use Rattle.ob_model.specs.Accesses.{is_far}
use Rattle.ob_model.specs.Endings.{plain}
use Rattle.ob_tree.specs.Types.{PlainType}
use Rattle.ob_typed.specs.declared.names.Builtin.{Builtin}
use Rattle.ob_typed.specs.declared.names.Builtin.TheVariants as builtin
use Rattle.ob_typed.specs.TypedTree.{TypedExpr, TypedExprs, TypedLean, TypedNode}
use Rattle.ob_typed.specs.TypedTree.TypedExpr.{Typed}
use Rattle.ob_typed.specs.TypedTree.TypedExprs.{NoArguments, Argument}
use Rattle.ob_typed.specs.TypedTree.{TypedLean as at, TypedNode as node}
use Rattle.ob_typed.specs.TypedTree.TypedPlace.{Place}
use Rattle.ob_meaning.specs.Expressions.{Based, arithmetic, comparison, argument, at_object, at_value, based, built_in, choose, computed, converted, copy_scalar, copy_scalars, further, load_based, node_value, older_if, right_operand, store_based, value, values}
use Rattle.ob_meaning.specs.Heap.{byte_count}
use Rattle.ob_meaning.specs.Pointers.{formed, stride}
use Rattle.ob_meaning.specs.Scalars.{Scalar, scalars_of}
use Rattle.ob_meaning.specs.Setup.{Below, expression_type, Loop, Setup, kind_of, number_type}
use Rattle.ob_meaning.specs.Values.{is_true, nothing, number_of, truth}
use Rattle.ob_meaning.specs.World.{Rule, World, Run, stop}
use Rattle.ob_meaning.proofs.Related.{KeptByActs, under}

module _ (u : Setup) (r s : Rule) (k : KeptByActs u r s) where
  -- choices that do not look at the world
  pub choose_acts : {A : Type 0} (b : Bool) (f g h i : World → Run A) → k.Acts f g → k.Acts h i → k.Acts (choose b f h) (choose b g i)
  choose_acts true f g h i x y = x
  choose_acts false f g h i x y = y

  far_acts : {A : Type 0} (b : Bool) (f g : World → Run A) → k.Acts f g → k.Acts (λ w. if b then stop (plain Far) w else f w) (λ w. if b then stop (plain Far) w else g w)
  far_acts true f g x = k.stops Far tt
  far_acts false f g x = x

  pub formed_acts : {A : Type 0} (d : ℤ) (f g : ℤ → World → Run A) → ((e : ℤ) → k.Acts (f e) (g e)) → k.Acts (λ w. formed d w f) (λ w. formed d w g)
  formed_acts d f g each = far_acts (is_far d) (f d) (g d) (each d)

  computed_acts : (x : Result ℤ DivideByZero) → k.Acts (computed x) (computed x)
  computed_acts (Ok n) = k.goes (value_of.Num n)
  computed_acts (Err e) = k.stops Divide tt

  arithmetic_acts : (op : BinOp) (t : IntType) (x y : Value) → k.Acts (arithmetic op t x y) (arithmetic op t x y)
  arithmetic_acts op t x y = computed_acts (binary op t (number_of (converted t x)) (number_of (right_operand (shifts op) t y)))

  pub further_acts : (b : Based) (d : ℤ) → k.Acts (further b d) (further b d)
  further_acts b d =
      formed_acts (b.displacement +ℤ d) _ _ (λ e. k.goes (record { base = b.base; displacement = e }))

  load_based_acts : (ty : PlainType) (line : ℕ) (b : Based) → k.Acts (load_based (under r u) ty line b) (load_based (under s u) ty line b)
  load_based_acts ty line b = k.loads (kind_of ty) line b.base b.displacement

  pub store_based_acts : (ty : PlainType) (line : ℕ) (b : Based) (v : Value) → k.Acts (store_based (under r u) ty line b v) (store_based (under s u) ty line b v)
  store_based_acts ty line b v =
      k.binds _ _ _ _ (k.stores (kind_of ty) line b.base b.displacement v) (λ none. k.goes v)

  copy_scalar_acts : (line : ℕ) (to from : Based) (x : Scalar) → k.Acts (copy_scalar (under r u) line to from x) (copy_scalar (under s u) line to from x)
  copy_scalar_acts line to from s =
      formed_acts (from.displacement +ℤ pos s.offset) _ _ (λ d.
      k.binds _ _ _ _ (k.loads s.kind line from.base d) (λ v.
      formed_acts (to.displacement +ℤ pos s.offset) _ _ (λ e. k.stores s.kind line to.base e v)))

  pub copy_scalars_acts : (line : ℕ) (to from : Based) (xs : List Scalar) → k.Acts (copy_scalars (under r u) line to from xs) (copy_scalars (under s u) line to from xs)
  copy_scalars_acts line to from [] = k.goes nothing
  copy_scalars_acts line to from (x ∷ xs) =
      k.binds _ _ _ _ (copy_scalar_acts line to from x) (λ none. copy_scalars_acts line to from xs)

  built_in_acts : (line : ℕ) (f : Builtin) (vs : List Value) → k.Acts (built_in (under r u) line f vs) (built_in (under s u) line f vs)
  built_in_acts line builtin.GetChar vs = k.reads
  built_in_acts line builtin.PutChar vs = k.writes (argument vs 0)
  built_in_acts line builtin.Malloc vs = k.allocates (byte_count (argument vs 0))
  built_in_acts line builtin.Calloc vs =
      k.allocates (byte_count (argument vs 0) * byte_count (argument vs 1))
  built_in_acts line builtin.Free vs = k.frees line (argument vs 0)
  built_in_acts line builtin.Exit vs = k.stops (Ended (convert Int (number_of (argument vs 0)))) tt

  -- the meanings of calls and turns after a step
  pub record BelowActs (m n : Below) : Type 0 where
    pub call : (f : ℕ) (vs : List Value) → k.Fewer (m.call f vs) (n.call f vs)
    pub turns : (loop : Loop) → k.Fewer (m.turns loop) (n.turns loop)

  module _ (m n : Below) (below : BelowActs m n) where
    mutual
      pub value_acts : (e : TypedExpr) → k.Acts (value (under r u) m e) (value (under s u) n e)
      value_acts (Typed line ty what) = node_acts line what

      node_acts : (line : ℕ) (what : TypedNode) → k.Acts (node_value (under r u) m line what) (node_value (under s u) n line what)
      node_acts line (node.Num i) = k.goes (value_of.Num i)
      node_acts line node.Null = k.goes value_of.Null
      node_acts line (node.Read (Place own_line ty lean)) = k.binds _ _ _ _ (based_acts lean) (λ b. load_based_acts ty line b)
      node_acts line (node.Lean lean) =
          k.binds _ _ _ _ (based_acts lean) (λ b. k.moves line b.base b.displacement)
      node_acts line (node.Convert t e) = k.binds _ _ _ _ (value_acts e) (λ x. k.goes (converted t x))
      node_acts line (node.ToVoid e) = k.binds _ _ _ _ (value_acts e) (λ x. k.goes nothing)
      node_acts line (node.Arith op t a b) =
          k.binds _ _ _ _ (value_acts a) (λ x. k.binds _ _ _ _ (value_acts b) (λ y. arithmetic_acts op t x y))
      node_acts line (node.Compare relation a b) =
          k.binds _ _ _ _ (value_acts a) (λ x.
          k.binds _ _ _ _ (value_acts b) (λ y. k.goes (comparison relation (number_type (expression_type a)) x y)))
      node_acts line (node.PtrCompare relation a b) =
          k.binds _ _ _ _ (value_acts a) (λ x. k.binds _ _ _ _ (value_acts b) (λ y. k.compares relation line x y))
      node_acts line (node.PtrDiff size a b) =
          k.binds _ _ _ _ (value_acts a) (λ x. k.binds _ _ _ _ (value_acts b) (λ y. k.subtracts size line x y))
      node_acts line (node.And a b) =
          k.binds _ _ _ _ (value_acts a) (λ x.
          choose_acts (is_true x) _ _ _ _ (k.binds _ _ _ _ (value_acts b) (λ y. k.goes (truth (is_true y)))) (k.goes (truth false)))
      node_acts line (node.Or a b) =
          k.binds _ _ _ _ (value_acts a) (λ x.
          choose_acts (is_true x) _ _ _ _ (k.goes (truth true)) (k.binds _ _ _ _ (value_acts b) (λ y. k.goes (truth (is_true y)))))
      node_acts line (node.Cond a b c) =
          k.binds _ _ _ _ (value_acts a) (λ x. choose_acts (is_true x) _ _ _ _ (value_acts b) (value_acts c))
      node_acts line (node.Comma a b) = k.binds _ _ _ _ (value_acts a) (λ x. value_acts b)
      node_acts line (node.Assign (Place own_line ty lean) e) =
          k.binds _ _ _ _ (based_acts lean) (λ b. k.binds _ _ _ _ (value_acts e) (λ v. store_based_acts ty line b v))
      node_acts line (node.Update op t post (Place own_line ty lean) e) =
          k.binds _ _ _ _ (based_acts lean) (λ b.
          k.binds _ _ _ _ (load_based_acts ty line b) (λ x.
          k.binds _ _ _ _ (value_acts e) (λ y.
          k.binds _ _ _ _ (arithmetic_acts op t x y) (λ z.
          k.binds _ _ _ _ (store_based_acts ty line b (converted (number_type ty) z)) (λ v.
          k.goes (older_if post x v))))))
      node_acts line (node.PtrUpdate scale minus post (Place own_line ty lean) e) =
          k.binds _ _ _ _ (based_acts lean) (λ b.
          k.binds _ _ _ _ (load_based_acts ty line b) (λ x.
          k.binds _ _ _ _ (value_acts e) (λ i.
          formed_acts (stride minus scale (number_of i)) _ _ (λ d.
          k.binds _ _ _ _ (k.moves line x d) (λ p.
          k.binds _ _ _ _ (store_based_acts ty line b p) (λ v. k.goes (older_if post x v)))))))
      node_acts line (node.CopyStruct (Place own_line ty lean) (Place from_line from_type from_lean)) =
          k.binds _ _ _ _ (based_acts lean) (λ to.
          k.binds _ _ _ _ (based_acts from_lean) (λ from. copy_scalars_acts line to from (scalars_of u.program.structs ty)))
      node_acts line (node.Call f es) =
          k.binds _ _ _ _ (values_acts es) (λ vs. k.steps _ _ (below.call f vs))
      node_acts line (node.CallBuiltin f es) =
          k.binds _ _ _ _ (values_acts es) (λ vs. k.steps _ _ (k.fewer _ _ (built_in_acts line f vs)))

      pub based_acts : (lean : TypedLean) → k.Acts (based (under r u) m lean) (based (under s u) n lean)
      based_acts (at.Static i) = k.goes (at_object (i + 1))
      based_acts (at.Local i) = k.locals i
      based_acts (at.Value e) = k.binds _ _ _ _ (value_acts e) (λ p. k.goes (at_value p))
      based_acts (at.Slide lean scale minus false e) =
          k.binds _ _ _ _ (based_acts lean) (λ b.
          k.binds _ _ _ _ (value_acts e) (λ i. further_acts b (stride minus scale (number_of i))))
      based_acts (at.Slide lean scale minus true e) =
          k.binds _ _ _ _ (value_acts e) (λ i.
          k.binds _ _ _ _ (based_acts lean) (λ b. further_acts b (stride minus scale (number_of i))))
      based_acts (at.Member lean offset) =
          k.binds _ _ _ _ (based_acts lean) (λ b. further_acts b (pos offset))

      values_acts : (es : TypedExprs) → k.Acts (values (under r u) m es) (values (under s u) n es)
      values_acts NoArguments = k.goes []
      values_acts (Argument e es) =
          k.binds _ _ _ _ (value_acts e) (λ v. k.binds _ _ _ _ (values_acts es) (λ vs. k.goes (v ∷ vs)))
