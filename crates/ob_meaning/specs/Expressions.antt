-- Expressions (C99 6.5). Operands are evaluated from left to right. An expression that designates an object, or points to one,
-- is read as a base and a displacement in bytes, an exact number. A displacement that lies too far out ends the run when it is
-- formed, before the tests of an access or a move.
use Rattle.std.specs.Prelude.{ℕ, ◌+◌, ◌*◌, Bool, true, false, ℤ, pos, ◌+ℤ◌, List, [], ◌∷◌, Result, Ok, Err, slice_index_or}
use Rattle.ob_words.specs.declared.types.BinOp.{BinOp}
use Rattle.ob_words.specs.declared.types.DivideByZero.{DivideByZero}
use Rattle.ob_words.specs.declared.types.IntType.{IntType}
use Rattle.ob_words.specs.declared.types.Relation.{Relation}
use Rattle.ob_words.specs.Conversion.{convert}
use Rattle.ob_words.specs.Operators.{binary, compare, shifts}
use Rattle.ob_model.specs.declared.endings.Ending.TheVariants.{Divide}
use Rattle.ob_model.specs.declared.values.Value.{Value}
use Rattle.ob_model.specs.declared.values.Value.TheVariants as value_of
use Rattle.ob_model.specs.Endings.{plain}
use Rattle.ob_tree.specs.Types.{PlainType}
use Rattle.ob_typed.specs.declared.names.Builtin.{Builtin}
use Rattle.ob_typed.specs.declared.names.Builtin.TheVariants as builtin
use Rattle.ob_typed.specs.TypedTree.{TypedExpr, TypedExprs, TypedLean, TypedNode}
use Rattle.ob_typed.specs.TypedTree.TypedExpr.{Typed}
use Rattle.ob_typed.specs.TypedTree.TypedExprs.{NoArguments, Argument}
use Rattle.ob_typed.specs.TypedTree.{TypedLean as at}
use Rattle.ob_typed.specs.TypedTree.{TypedNode as node}
use Rattle.ob_typed.specs.TypedTree.TypedPlace.{Place}
use Rattle.ob_meaning.specs.Accesses.{load, store}
use Rattle.ob_meaning.specs.Heap.{allocated, exited, free, read_byte, byte_count, write_byte}
use Rattle.ob_meaning.specs.Pointers.{compared, formed, move, stride, subtracted}
use Rattle.ob_meaning.specs.Scalars.{Scalar, scalars_of}
use Rattle.ob_meaning.specs.Setup.{Below, Setup, expression_type, first_local, kind_of, number_type}
use Rattle.ob_meaning.specs.Values.{is_true, nothing, number_of, truth}
use Rattle.ob_meaning.specs.World.{World, Run, stop, go, bind, step}

-- ---- numbers

abbrev pub converted : IntType → Value → Value
converted t v = value_of.Num (convert t (number_of v))

-- what an operator gives; division by zero ends the run
abbrev pub computed : Result ℤ DivideByZero → World → Run Value
computed (Ok n) w = go (value_of.Num n) w
computed (Err e) w = stop (plain Divide) w

-- An operator on two numbers of a type (6.5.5 to 6.5.12). Only compound assignment has operands of another type, which are
-- converted first; the right operand of a shift stays.
abbrev pub right_operand : Bool → IntType → Value → Value
right_operand true t y = y
right_operand false t y = converted t y

abbrev pub arithmetic : BinOp → IntType → Value → Value → World → Run Value
arithmetic op t x y w =
    computed (binary op t (number_of (converted t x)) (number_of (right_operand (shifts op) t y))) w

-- a comparison of two numbers of a type (6.5.8, 6.5.9)
abbrev pub comparison : Relation → IntType → Value → Value → Value
comparison r t x y = truth (compare r (number_of (converted t x)) (number_of (converted t y)))

-- ---- choices

-- goes on in one of two ways
abbrev pub choose : {A : Type 0} → Bool → (World → Run A) → (World → Run A) → World → Run A
choose {A} true run other w = run w
choose {A} false run other w = other w

-- 1 or 0, by whether a value is other than 0 and null
abbrev pub tested : Run Value → Run Value
tested r = bind r (λ x w. go (truth (is_true x)) w)

-- the older value for a step behind its operand, else the newer one (6.5.2.4, 6.5.3.1)
abbrev pub older_if : Bool → Value → Value → Value
older_if true old new = old
older_if false old new = new

-- ---- bases and displacements

pub record Based : Type 0 where
  pub base : Value
  pub displacement : ℤ

abbrev pub at_object : ℕ → Based
at_object object = record { base = value_of.Ptr object (pos 0); displacement = pos 0 }

abbrev pub at_value : Value → Based
at_value p = record { base = p; displacement = pos 0 }

-- so many bytes further
abbrev pub further : Based → ℤ → World → Run Based
further b d w = formed (b.displacement +ℤ d) w (λ e w1. go (record { base = b.base; displacement = e }) w1)

abbrev pub load_based : Setup → PlainType → ℕ → Based → World → Run Value
load_based u ty line b w = load u.rule u.cycle (kind_of ty) line b.base b.displacement w

-- a store gives what was stored
abbrev pub store_based : Setup → PlainType → ℕ → Based → Value → World → Run Value
store_based u ty line b v w = bind (store u.rule (kind_of ty) line b.base b.displacement v w) (λ none w1. go v w1)

-- ---- structures

-- each scalar is loaded and stored, in order of offset
abbrev pub copy_scalar : Setup → ℕ → Based → Based → Scalar → World → Run Value
copy_scalar u line to from s w =
    formed (from.displacement +ℤ pos s.offset) w (λ d w1.
    bind (load u.rule u.cycle s.kind line from.base d w1) (λ v w2.
    formed (to.displacement +ℤ pos s.offset) w2 (λ e w3. store u.rule s.kind line to.base e v w3)))

abbrev pub copy_scalars : Setup → ℕ → Based → Based → List Scalar → World → Run Value
copy_scalars u line to from [] w = go nothing w
copy_scalars u line to from (s ∷ ss) w =
    bind (copy_scalar u line to from s w) (λ none w1. copy_scalars u line to from ss w1)

-- ---- built-in functions (7.19.7, 7.20.3, 7.20.4)

abbrev pub argument : List Value → ℕ → Value
argument vs i = slice_index_or vs i nothing

abbrev pub built_in : Setup → ℕ → Builtin → List Value → World → Run Value
built_in u line builtin.GetChar vs w = read_byte u.input_end w.input w
built_in u line builtin.PutChar vs w = write_byte (argument vs 0) w
built_in u line builtin.Malloc vs w = allocated u.settings.heap (byte_count (argument vs 0)) w
built_in u line builtin.Calloc vs w =
    allocated u.settings.heap (byte_count (argument vs 0) * byte_count (argument vs 1)) w
built_in u line builtin.Free vs w = free u.settings.profile line (argument vs 0) w
built_in u line builtin.Exit vs w = exited (argument vs 0) w

-- ---- expressions

abbrev mutual
  -- the value of an expression
  pub value : Setup → Below → TypedExpr → World → Run Value
  value u m (Typed line ty what) w = node_value u m line what w

  -- The value of a node at a line. Its accesses, moves and comparisons are told with that line.
  pub node_value : Setup → Below → ℕ → TypedNode → World → Run Value
  node_value u m line (node.Num n) w = go (value_of.Num n) w
  node_value u m line node.Null w = go value_of.Null w
  -- what is loaded from a place
  node_value u m line (node.Read (Place own_line ty lean)) w = bind (based u m lean w) (λ b w1. load_based u ty line b w1)
  -- a pointer to a place, an array that decays, a pointer sum: the base is moved once (6.3.2.1, 6.5.3.2, 6.5.6)
  node_value u m line (node.Lean lean) w =
      bind (based u m lean w) (λ b w1. move u.settings.away line b.base b.displacement w1)
  -- conversions (6.3.1.3, 6.3.2.2)
  node_value u m line (node.Convert t e) w = bind (value u m e w) (λ x w1. go (converted t x) w1)
  node_value u m line (node.ToVoid e) w = bind (value u m e w) (λ x w1. go nothing w1)
  -- operators on two numbers, and on two pointers
  node_value u m line (node.Arith op t a b) w =
      bind (value u m a w) (λ x w1. bind (value u m b w1) (λ y w2. arithmetic op t x y w2))
  node_value u m line (node.Compare r a b) w =
      bind (value u m a w) (λ x w1. bind (value u m b w1) (λ y w2. go (comparison r (number_type (expression_type a)) x y) w2))
  node_value u m line (node.PtrCompare r a b) w =
      bind (value u m a w) (λ x w1. bind (value u m b w1) (λ y w2. compared r line x y w2))
  node_value u m line (node.PtrDiff size a b) w =
      bind (value u m a w) (λ x w1. bind (value u m b w1) (λ y w2. subtracted size line x y w2))
  -- `&&`, `||`, `?:` and `,` (6.5.13 to 6.5.15, 6.5.17)
  node_value u m line (node.And a b) w =
      bind (value u m a w) (λ x w1. choose (is_true x) (λ w2. tested (value u m b w2)) (go (truth false)) w1)
  node_value u m line (node.Or a b) w =
      bind (value u m a w) (λ x w1. choose (is_true x) (go (truth true)) (λ w2. tested (value u m b w2)) w1)
  node_value u m line (node.Cond a b c) w =
      bind (value u m a w) (λ x w1. choose (is_true x) (value u m b) (value u m c) w1)
  node_value u m line (node.Comma a b) w = bind (value u m a w) (λ x w1. value u m b w1)
  -- assignments (6.5.16): the place is evaluated first; the value is the one that is stored
  node_value u m line (node.Assign (Place own_line ty lean) e) w =
      bind (based u m lean w) (λ b w1. bind (value u m e w1) (λ v w2. store_based u ty line b v w2))
  -- the place is evaluated and loaded first
  node_value u m line (node.Update op t post (Place own_line ty lean) e) w =
      bind (based u m lean w) (λ b w1.
      bind (load_based u ty line b w1) (λ x w2.
      bind (value u m e w2) (λ y w3.
      bind (arithmetic op t x y w3) (λ z w4.
      bind (store_based u ty line b (converted (number_type ty) z) w4) (λ v w5. go (older_if post x v) w5)))))
  node_value u m line (node.PtrUpdate scale minus post (Place own_line ty lean) e) w =
      bind (based u m lean w) (λ b w1.
      bind (load_based u ty line b w1) (λ x w2.
      bind (value u m e w2) (λ n w3.
      formed (stride minus scale (number_of n)) w3 (λ d w4.
      bind (move u.settings.away line x d w4) (λ p w5.
      bind (store_based u ty line b p w5) (λ v w6. go (older_if post x v) w6))))))
  -- the assignment of a structure (6.5.16.1): both places are evaluated first
  node_value u m line (node.CopyStruct (Place own_line ty lean) (Place from_line from_type from_lean)) w =
      bind (based u m lean w) (λ to w1.
      bind (based u m from_lean w1) (λ from w2. copy_scalars u line to from (scalars_of u.program.structs ty) w2))
  -- calls (6.5.2.2): the arguments are evaluated in order, and the call takes a step
  node_value u m line (node.Call f es) w = bind (values u m es w) (λ vs w1. step w1 (λ w2. m.call f vs w2))
  node_value u m line (node.CallBuiltin f es) w =
      bind (values u m es w) (λ vs w1. step w1 (λ w2. built_in u line f vs w2))

  -- the base and the displacement
  pub based : Setup → Below → TypedLean → World → Run Based
  based u m (at.Static i) w = go (at_object (i + 1)) w
  based u m (at.Local i) w = go (at_object (first_local w.calls + i)) w
  based u m (at.Value e) w = bind (value u m e w) (λ p w1. go (at_value p) w1)
  based u m (at.Slide lean scale minus false e) w =
      bind (based u m lean w) (λ b w1. bind (value u m e w1) (λ n w2. further b (stride minus scale (number_of n)) w2))
  based u m (at.Slide lean scale minus true e) w =
      bind (value u m e w) (λ n w1. bind (based u m lean w1) (λ b w2. further b (stride minus scale (number_of n)) w2))
  based u m (at.Member lean offset) w = bind (based u m lean w) (λ b w1. further b (pos offset) w1)

  -- the arguments' values, in order
  pub values : Setup → Below → TypedExprs → World → Run (List Value)
  values u m NoArguments w = go [] w
  values u m (Argument e es) w = bind (value u m e w) (λ v w1. bind (values u m es w1) (λ vs w2. go (v ∷ vs) w2))
