-- The code of an expression (C99 6.5), in which the words from d on are free. It follows the tree: first the code of the operands, in
-- the order of their evaluation, and then what the node does. It writes free words, the words of the variables that the expression
-- assigns, and the word where the value is wanted, which the last instruction on each way writes.
use Rattle.std.specs.Prelude.{ℕ, ◌+◌, Bool, true, false, pos, List, [], ◌++◌}
use Rattle.ob_words.specs.declared.types.IntType.TheVariants.{Long, ULong}
use Rattle.ob_typed.specs.declared.names.Builtin.{Builtin}
use Rattle.ob_typed.specs.TypedTree.{TypedExpr, TypedExprs, TypedLean, TypedNode}
use Rattle.ob_typed.specs.TypedTree.TypedExpr.{Typed}
use Rattle.ob_typed.specs.TypedTree.TypedExprs.{NoArguments, Argument}
use Rattle.ob_typed.specs.TypedTree.TypedPlace.{Place}
use Rattle.ob_typed.specs.TypedTree.{TypedLean as at, TypedNode as node}
use Rattle.ob_code.specs.declared.instructions.Instr.{Instr}
use Rattle.ob_code.specs.declared.instructions.Instr.TheVariants as instr
use Rattle.ob_meaning.specs.Scalars.{scalars_of}
use Rattle.ob_meaning.specs.Setup.{expression_type, kind_of, number_type}
use Rattle.ob_lower.specs.Assigned.{assigns, assigns_none, either, lean_assigns}
use Rattle.ob_lower.specs.Calls.{argument_reading, call_code, effect_code, one_argument, two_arguments, without_argument}
use Rattle.ob_lower.specs.Conditions.{Condition, against_zero, by_sameness, choice, choice_code, decided, either_way, known_or, tested}
use Rattle.ob_lower.specs.Homes.{Context, local_row, variable_word}
use Rattle.ob_lower.specs.Instructions.{Operand, Want, after, dropped, finish, in_free, in_word, into, number_code, stands}
use Rattle.ob_lower.specs.Numbers.{Reading, constant, fits, is_needless, is_zero, low, whole}
use Rattle.ob_lower.specs.Operands.{assigned, compare_pointers, constant_or, convert_code, hold, needless_or, operator, same, two, variable_or, zero_or}
use Rattle.ob_lower.specs.Places.{Based, at_object, at_pointer, base_first, comes_first, first_or, member, number_first, signed}
use Rattle.ob_lower.specs.Stores.{assign_code, copies_code, distance, known_stride, load_code, moved_word, pointer_code, right_reading, stored_reading, update_memory, update_variable, updated_number, updated_word}

-- two numbers are compared in the type of the left one, which the right one has too
abbrev pub compared_reading : TypedExpr → Reading
compared_reading e = low (number_type (expression_type e))

abbrev mutual
  -- the code of an expression, of which something is wanted
  pub code : Context → TypedExpr → Want → ℕ → List Instr
  code c (Typed line ty what) want d = constant_or (constant (Typed line ty what)) (node_code c line what) want d

  pub node_code : Context → ℕ → TypedNode → Want → ℕ → List Instr
  node_code c line (node.Num n) want d = number_code want n
  node_code c line node.Null want d = number_code want (pos 0)
  -- what is loaded from a place, and the pointer to a place (6.3.2.1, 6.5.3.2, 6.5.6)
  node_code c line (node.Read (Place own_line t lean)) want d =
      variable_or (variable_word c lean) (stands want [])
      (λ f. load_code c (kind_of t) line (based c lean assigns_none f) want f) d
  node_code c line (node.Lean (at.Local v)) want d = finish want d [] (λ t. instr.Local t (pos (local_row c v)))
  node_code c line (node.Lean (at.Static n)) want d = finish want d [] (λ t. instr.Static t (pos (n + 1)))
  node_code c line (node.Lean lean) want d = pointer_code c (based c lean assigns_none d) want d
  -- conversions (6.3.1.3, 6.3.2.2)
  node_code c line (node.Convert k e) want d = convert_code (fits k e) k (code c e) (operand c e (low k) d) want d
  node_code c line (node.ToVoid e) want d = effect_code want (code c e dropped d)
  -- operators on two numbers, and on two pointers
  node_code c line (node.Arith op k a b) want d =
      operator want d (two (assigns c b) (code c a) (operand c a (low k)) (operand c b (right_reading op k)) d)
      (λ t x y. instr.Binary k op t x y)
  node_code c line (node.Compare r a b) want d =
      operator want d (two (assigns c b) (code c a) (operand c a (compared_reading a)) (operand c b (compared_reading a)) d)
      (λ t x y. instr.Compare (number_type (expression_type a)) r t x y)
  node_code c line (node.PtrCompare r a b) want d =
      compare_pointers r c.zero (two (assigns c b) (code c a) (operand c a whole) (operand c b whole) d) want d
  node_code c line (node.PtrDiff size a b) want d =
      operator want d (two (assigns c b) (code c a) (operand c a whole) (operand c b whole) d)
      (λ t x y. instr.Difference t x y (pos size))
  -- `&&`, `||`, `?:` and `,` (6.5.13 to 6.5.15, 6.5.17)
  node_code c line (node.And a b) want d =
      choice_code false (condition c a d) (condition c b d) (code c b) want d
  node_code c line (node.Or a b) want d =
      choice_code true (condition c a d) (condition c b d) (code c b) want d
  node_code c line (node.Cond a b e) want d = either_way (condition c a d) (code c b want d) (code c e want d)
  node_code c line (node.Comma a b) want d = code c a dropped d ++ code c b want d
  -- assignments and steps (6.5.16, 6.5.2.4, 6.5.3.1): of a plain variable, or of a place in memory
  node_code c line (node.Assign (Place own_line t lean) e) want d =
      variable_or (variable_word c lean)
      (λ w. stands want (code c e (into w) d) w)
      (λ f. assign_code c (kind_of t) line (based c lean (assigns c e) f) (operand c e (stored_reading want (kind_of t))) want) d
  node_code c line (node.Update op k post (Place own_line t lean) e) want d =
      variable_or (variable_word c lean)
      (λ w. update_variable post (assigns c e w) w (operand c e (right_reading op k)) (updated_word op k (number_type t) w) want d)
      (λ f. update_memory c (kind_of t) line post (based c lean (assigns c e) f) (operand c e (right_reading op k)) (updated_number op k (number_type t) post want) want) d
  node_code c line (node.PtrUpdate scale minus post (Place own_line t lean) e) want d =
      variable_or (variable_word c lean)
      (λ w. update_variable post (assigns c e w) w (distance c (known_stride minus scale (constant e)) (signed minus scale) (operand c e (low Long))) (λ old f. moved_word old w) want d)
      (λ f. update_memory c (kind_of t) line post (based c lean (assigns c e) f) (distance c (known_stride minus scale (constant e)) (signed minus scale) (operand c e (low Long))) moved_word want) d
  node_code c line (node.CopyStruct (Place own_line t to) (Place from_line from_type from)) want d =
      effect_code want (copies_code c line (based c to (lean_assigns c from) d) (based c from assigns_none) (scalars_of c.structs t))
  -- calls (6.5.2.2)
  node_code c line (node.Call f es) want d = call_code c f (arguments c es d) want d
  node_code c line (node.CallBuiltin b es) want d = built_in_code c line b es want d

  -- the arguments in words one after another, from d on
  pub arguments : Context → TypedExprs → ℕ → List Instr
  arguments c NoArguments d = []
  arguments c (Argument e es) d = code c e (into d) d ++ arguments c es (d + 1)

  pub built_in_code : Context → ℕ → Builtin → TypedExprs → Want → ℕ → List Instr
  built_in_code c line b NoArguments want d = without_argument b want d
  built_in_code c line b (Argument e NoArguments) want d = one_argument line b (operand c e (argument_reading b) d) want d
  built_in_code c line b (Argument e (Argument e1 es)) want d =
      two_arguments b (two (assigns c e1) (code c e) (operand c e (low ULong)) (operand c e1 (low ULong)) d) want d

  -- an expression as an operand: code, and the word where its value stands, which is a free word, the zero word or a variable's
  pub operand : Context → TypedExpr → Reading → ℕ → Operand
  operand c (Typed line ty what) reading d =
      zero_or (is_zero (constant (Typed line ty what))) c.zero
      (node_operand c what (constant_or (constant (Typed line ty what)) (node_code c line what)) reading) d

  pub node_operand : Context → TypedNode → (Want → ℕ → List Instr) → Reading → ℕ → Operand
  node_operand c (node.Read (Place own_line t lean)) own reading d = variable_or (variable_word c lean) in_word (in_free own) d
  node_operand c (node.Convert k e) own reading d =
      needless_or (is_needless reading k e) (operand c e reading) (in_free own) d
  node_operand c (node.Comma a b) own reading d = after (code c a dropped d) (operand c b reading d)
  node_operand c (node.Assign (Place own_line t lean) e) own reading d =
      variable_or (variable_word c lean) (assigned own d) (in_free own) d
  node_operand c (node.Update op k false (Place own_line t lean) e) own reading d =
      variable_or (variable_word c lean) (assigned own d) (in_free own) d
  node_operand c (node.PtrUpdate scale minus false (Place own_line t lean) e) own reading d =
      variable_or (variable_word c lean) (assigned own d) (in_free own) d
  node_operand c what own reading d = in_free own d

  -- an expression as a condition
  pub condition : Context → TypedExpr → ℕ → Condition
  condition c (Typed line ty what) d =
      known_or (constant (Typed line ty what)) (node_condition c what (node_operand c what (node_code c line what) whole)) d

  pub node_condition : Context → TypedNode → (ℕ → Operand) → ℕ → Condition
  node_condition c (node.And a b) own d = decided (choice false (condition c a d) (condition c b d))
  node_condition c (node.Or a b) own d = decided (choice true (condition c a d) (condition c b d))
  node_condition c (node.Compare r a b) own d =
      against_zero r (is_zero (constant b)) (condition c a) (λ f. tested true (own f)) d
  node_condition c (node.PtrCompare r a b) own d =
      against_zero r (is_zero (constant b)) (condition c a)
      (by_sameness r (λ f. same (two (assigns c b) (code c a) (operand c a whole) (operand c b whole) f) f) own) d
  node_condition c what own d = tested true (own d)

  -- a base and a displacement; what is evaluated after them assigns the variables of some words
  pub based : Context → TypedLean → (ℕ → Bool) → ℕ → Based
  based c (at.Static n) rest d = at_object (λ t. instr.Static t (pos (n + 1))) d
  based c (at.Local v) rest d = at_object (λ t. instr.Local t (pos (local_row c v))) d
  based c (at.Value e) rest d = at_pointer (hold rest (code c e) (operand c e whole) d) d
  based c (at.Slide lean scale minus first e) rest d =
      first_or (comes_first first (constant e))
      (number_first c (hold (lean_assigns c lean) (code c e) (operand c e (low Long)) d) (based c lean rest) (signed minus scale))
      (λ f. base_first c (based c lean (either rest (assigns c e)) f) (constant e) minus scale (operand c e (low Long))) d
  based c (at.Member lean offset) rest d = member (based c lean rest d) offset
