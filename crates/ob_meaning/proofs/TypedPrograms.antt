-- The types of a program's expressions are those that its values have.
use Rattle.std.proofs.Common.{◌≡◌, ℕ, zero, suc, ◌+◌, ◌*◌, Bool, true, false, List, [], ◌∷◌, length, Option, Some, None, slice_get, slice_index_or, take, refl, sym, subst, ◌∙◌, ap, arith}
use Rattle.std.specs.Prelude.{nat_lt, if◌then◌else◌}
use Rattle.std.specs.Option.{unwrap_or}
use Rattle.std.proofs.lemmas.Bool.{lt-ltb, true≢false}
use Rattle.ob_words.specs.declared.types.IntType.{IntType}
use Rattle.ob_tree.specs.Parts.{Part}
use Rattle.ob_tree.specs.Sizes.{size}
use Rattle.ob_tree.specs.Types.{PlainType, PlainStructs}
use Rattle.ob_tree.specs.Types.PlainType.{Void, Int, Pointer, Array, Struct}
use Rattle.ob_typed.specs.declared.names.Builtin.{Builtin}
use Rattle.ob_typed.specs.declared.names.Builtin.TheVariants as builtin
use Rattle.ob_typed.specs.Conversions.{value_type}
use Rattle.ob_typed.specs.PostfixRules.{builtin_params, builtin_result}
use Rattle.ob_typed.specs.TypedTree.{TypedExpr, TypedExprs, TypedFunction, TypedInit, TypedInits, TypedLean, TypedNode, TypedStmt, TypedStmts}
use Rattle.ob_typed.specs.TypedTree.TypedExpr.{Typed}
use Rattle.ob_typed.specs.TypedTree.{TypedExprs as exprs, TypedLean as at, TypedNode as node, TypedInit as init, TypedInits as inits, TypedStmt as stmt, TypedStmts as stmts}
use Rattle.ob_typed.specs.TypedTree.TypedPlace.{Place}
use Rattle.ob_typed.proofs.ProgramsTyped.{typed_trees_are_well_typed}
use Rattle.ob_typed.specs.WellTyped as rules
use Rattle.ob_typed.specs.WellTyped.{Around, IsWellTyped}
use Rattle.ob_meaning.specs.Scalars.{no_part, part_of}
use Rattle.ob_meaning.specs.Setup.{Setup, function_at, no_function, number_type}
use Rattle.ob_meaning.specs.TypedPrograms.{RulesGiveValues, TypedProgramsGiveValues}
use Rattle.ob_meaning.specs.ValueTypes.{AreArguments, AreTyped, AreTypedItems, AreTypedStmts, Class, HasClass, IsNumberClass, IsScalar, IsTyped, IsTypedInit, IsTypedLean, IsTypedNode, IsTypedOption, IsTypedProgram, IsTypedReturn, IsTypedStmt, builtin_class, class_of, class_of_expression, none, pointer}
use Rattle.ob_meaning.specs.ValueTypes as class

-- ---- classes of types

agreeing : (t u : PlainType) → rules.Agrees t u → class_of t ≡ class_of u
agreeing (Pointer t) (Pointer u) h = refl
agreeing (Pointer t) Void h = ap class_of h
agreeing (Pointer t) (Int k) h = ap class_of h
agreeing (Pointer t) (Array u n) h = ap class_of h
agreeing (Pointer t) (Struct n) h = ap class_of h
agreeing Void u h = ap class_of h
agreeing (Int k) u h = ap class_of h
agreeing (Array t n) u h = ap class_of h
agreeing (Struct n) u h = ap class_of h

pointed : (t : PlainType) → rules.IsPointer t → class_of t ≡ pointer
pointed (Pointer t) h = refl
pointed Void h = absurd h
pointed (Int k) h = absurd h
pointed (Array t n) h = absurd h
pointed (Struct n) h = absurd h

scalar : (t : PlainType) → rules.IsScalar t → IsScalar (class_of t)
scalar (Pointer t) h = tt
scalar (Int k) h = tt
scalar Void h = absurd h
scalar (Array t n) h = absurd h
scalar (Struct n) h = absurd h

same_type : (e : TypedExpr) (t : PlainType) → value_type e ≡ t → class_of_expression e ≡ class_of t
same_type (Typed line ty what) t h = ap class_of h

-- a number's own type
number_of_its : (t : PlainType) (k : IntType) → t ≡ Int k → class_of t ≡ class.number (number_type t)
number_of_its (Int j) k h = refl
number_of_its Void k h = absurd (cc)
number_of_its (Pointer t) k h = absurd (cc)
number_of_its (Array t n) k h = absurd (cc)
number_of_its (Struct n) k h = absurd (cc)

built_in_class : (b : Builtin) → class_of (builtin_result b) ≡ builtin_class b
built_in_class builtin.GetChar = refl
built_in_class builtin.PutChar = refl
built_in_class builtin.Malloc = refl
built_in_class builtin.Calloc = refl
built_in_class builtin.Free = refl
built_in_class builtin.Exit = refl

got : {A : Type 0} (xs : List A) (i : ℕ) (d x : A) → slice_get xs i ≡ Some x → slice_index_or xs i d ≡ x
got [] i d x h = absurd (cc)
got (y ∷ ys) zero d x h = cc
got (y ∷ ys) (suc i) d x h = got ys i d x h

type_agrees : (t : PlainType) (e : TypedExpr) → rules.Agrees t (value_type e) → class_of_expression e ≡ class_of t
type_agrees t (Typed line ty what) h = sym (agreeing t ty h)

same_two : (a b : TypedExpr) → value_type a ≡ value_type b → class_of_expression b ≡ class_of_expression a
same_two (Typed line t what) (Typed other v that) h = sym (ap class_of h)

scaled : (structs : PlainStructs) (t : PlainType) (n : ℕ) → rules.IsScaleOf structs t n → class_of t ≡ pointer
scaled structs (Pointer t) n h = refl
scaled structs Void n h = absurd h
scaled structs (Int k) n h = absurd h
scaled structs (Array t m) n h = absurd h
scaled structs (Struct m) n h = absurd h

abbrev around : Setup → Around
around u = record { structs = u.program.structs; functions = u.program.functions }

-- a number that no function has stands for an empty body
function_typed : (c : Around) (fs : List TypedFunction) (i : ℕ) → rules.AreTypedFunctions c fs → rules.IsTypedFunction c (slice_index_or fs i no_function)
function_typed c [] i h = (tt, tt)
function_typed c (f ∷ fs) zero h = h.0
function_typed c (f ∷ fs) (suc i) h = function_typed c fs i h.1

-- a call of a function, whose arguments are those of its parameters
call_of : (u : Setup) → rules.HasTypedFunctions u.program → (f : ℕ) (es : TypedExprs) (ty : PlainType) (found : Option TypedFunction) → slice_get u.program.functions f ≡ found → rules.HasResult found ty → rules.AreTyped (around u) es (rules.params_of found) → ((n : ℕ) (ts : List PlainType) → rules.AreScalars (take n ts) → rules.AreTyped (around u) es (take n ts) → AreArguments u ts es) → (class_of (function_at u f).result ≡ class_of ty) × AreArguments u (function_at u f).locals es
call_of u typed f es ty None is result given each = absurd result
call_of u typed f es ty (Some g) is result given each =
    let same : function_at u f ≡ g = got u.program.functions f no_function g is in
    let fits : rules.AreScalars (take g.params g.locals) = subst (λ (x : TypedFunction). rules.AreScalars (take x.params x.locals)) same (function_typed (around u) u.program.functions f typed).0 in
    subst (λ (x : TypedFunction). (class_of x.result ≡ class_of ty) × AreArguments u x.locals es) (sym same) (sym (agreeing ty g.result result), each g.params g.locals fits given)

-- the class of what a string's characters are stored as
first_if : (b : Bool) (p : Part) → b ≡ true → IsNumberClass (class_of p.ty) → IsNumberClass (class_of (unwrap_or (if b then Some p else None) no_part).ty)
first_if true p h i = i
first_if false p h i = absurd (true≢false (sym h))

string_class : (structs : PlainStructs) (ty : PlainType) (count : ℕ) → rules.HoldsString ty count → IsNumberClass (class_of (part_of structs ty 0).ty)
string_class structs (Array (Int k) zero) count h = tt
string_class structs (Array (Int k) (suc n)) count h =
    first_if (nat_lt 0 (suc n)) (record { offset = 0 * size structs (Int k); ty = Int k }) (lt-ltb 0 (suc n) (omega arith)) tt
string_class structs (Array Void n) count h = absurd h
string_class structs (Array (Pointer t) n) count h = absurd h
string_class structs (Array (Array t m) n) count h = absurd h
string_class structs (Array (Struct m) n) count h = absurd h
string_class structs Void count h = absurd h
string_class structs (Int k) count h = absurd h
string_class structs (Pointer t) count h = absurd h
string_class structs (Struct n) count h = absurd h

module _ (u : Setup) (typed : rules.HasTypedFunctions u.program) where
  -- ---- expressions

  mutual
    expr_typed : (e : TypedExpr) → IsWellTyped (around u) e → IsTyped u e
    expr_typed (Typed line ty what) h = node_typed what ty h

    node_typed : (what : TypedNode) (ty : PlainType) → rules.IsTypedNode (around u) ty what → IsTypedNode u (class_of ty) what
    node_typed (node.Num z) (Int k) h = (h, tt)
    node_typed (node.Num z) Void h = absurd h
    node_typed (node.Num z) (Pointer t) h = absurd h
    node_typed (node.Num z) (Array t n) h = absurd h
    node_typed (node.Num z) (Struct n) h = absurd h
    node_typed node.Null ty h = pointed ty h
    node_typed (node.Read (Place line t lean)) ty h = (sym (agreeing ty t h.1), lean_typed lean h.2.1)
    node_typed (node.Lean lean) ty h = (pointed ty h.0, lean_typed lean h.1)
    node_typed (node.Convert k e) ty h = (ap class_of h.0, expr_typed e h.2)
    node_typed (node.ToVoid e) ty h = (ap class_of h.0, expr_typed e h.1)
    node_typed (node.Arith op k a b) ty h = (ap class_of h.0, expr_typed a h.4, expr_typed b h.5)
    node_typed (node.Compare r a b) ty h = (ap class_of h.0, expr_typed a h.2, expr_typed b h.3)
    node_typed (node.PtrCompare r a b) ty h = (ap class_of h.0, expr_typed a h.3, expr_typed b h.4)
    node_typed (node.PtrDiff scale a b) ty h = (ap class_of h.0, expr_typed a h.3, expr_typed b h.4)
    node_typed (node.And a b) ty h = (ap class_of h.0, expr_typed a h.3, expr_typed b h.4)
    node_typed (node.Or a b) ty h = (ap class_of h.0, expr_typed a h.3, expr_typed b h.4)
    node_typed (node.Cond z a b) ty h =
        let first : class_of_expression a ≡ class_of ty = type_agrees ty a h.2 in
        (first, same_two a b h.3 ∙ first, expr_typed z h.4, expr_typed a h.5, expr_typed b h.6)
    node_typed (node.Comma a b) ty h = (type_agrees ty b h.0, expr_typed a h.1, expr_typed b h.2)
    node_typed (node.Assign (Place line t lean) e) ty h =
        let same : class_of t ≡ class_of ty = sym (agreeing ty t h.1) in
        (same, same_type e t h.2 ∙ same, scalar ty h.0, lean_typed lean h.3.1, expr_typed e h.4)
    node_typed (node.Update op k post (Place line t lean) e) ty h =
        let same : class_of t ≡ class_of ty = sym (ap class_of h.1) in
        (same, sym same ∙ number_of_its t h.0.0 (sym h.1 ∙ h.0.1), lean_typed lean h.2.1, expr_typed e h.3)
    node_typed (node.PtrUpdate scale minus post (Place line t lean) e) ty h =
        (scaled u.program.structs t scale h.1 ∙ sym (pointed ty h.0), pointed ty h.0, lean_typed lean h.3.1, expr_typed e h.4)
    node_typed (node.CopyStruct (Place line t lean) (Place from_line from_type from_lean)) ty h =
        (ap class_of h.0, lean_typed lean h.3.1, lean_typed from_lean h.4.1)
    node_typed (node.Call f es) ty h =
        call_of u typed f es ty (slice_get u.program.functions f) refl h.0 h.1 (arguments_typed es)
    node_typed (node.CallBuiltin b es) ty h =
        (agreeing ty (builtin_result b) h.0 ∙ built_in_class b, all_typed es (builtin_params b) h.1)

    lean_typed : (lean : TypedLean) → rules.IsTypedLean (around u) lean → IsTypedLean u lean
    lean_typed (at.Static i) h = tt
    lean_typed (at.Local i) h = tt
    lean_typed (at.Value e) h = expr_typed e h.1
    lean_typed (at.Slide lean scale minus number_first e) h = (lean_typed lean h.1, expr_typed e h.3)
    lean_typed (at.Member lean offset) h = lean_typed lean h.1

    -- arguments in the types of so many parameters
    arguments_typed : (es : TypedExprs) (n : ℕ) (ts : List PlainType) → rules.AreScalars (take n ts) → rules.AreTyped (around u) es (take n ts) → AreArguments u ts es
    arguments_typed exprs.NoArguments n ts fits h = tt
    arguments_typed (exprs.Argument e es) zero [] fits h = absurd h
    arguments_typed (exprs.Argument e es) (suc n) [] fits h = absurd h
    arguments_typed (exprs.Argument e es) zero (t ∷ ts) fits h = absurd h
    arguments_typed (exprs.Argument e es) (suc n) (t ∷ ts) fits h =
        (same_type e t h.0, scalar t fits.0, expr_typed e h.1, arguments_typed es n ts fits.1 h.2)

    all_typed : (es : TypedExprs) (ts : List PlainType) → rules.AreTyped (around u) es ts → AreTyped u es
    all_typed exprs.NoArguments ts h = tt
    all_typed (exprs.Argument e es) [] h = absurd h
    all_typed (exprs.Argument e es) (t ∷ ts) h = (expr_typed e h.1, all_typed es ts h.2)

  -- ---- initialisers and statements

  mutual
    init_typed : (item : TypedInit) (ty : PlainType) → rules.IsTypedInit (around u) ty item → IsTypedInit u ty item
    init_typed (init.Value e) ty h = (same_type e ty h.1, scalar ty h.0, expr_typed e h.2)
    init_typed (init.Chars cs) ty h = string_class u.program.structs ty (length cs) h
    init_typed (init.Items items) ty h = items_typed items ty 0 h
    init_typed (init.Copy (Place line t lean)) ty h = lean_typed lean h.2.1

    items_typed : (items : TypedInits) (ty : PlainType) (i : ℕ) → rules.AreTypedItems (around u) ty i items → AreTypedItems u ty items i
    items_typed inits.NoItems ty i h = tt
    items_typed (inits.Item head tail) ty i h =
        (subst (λ o. IsTypedInit u (unwrap_or o no_part).ty head) (sym h.0.1) (init_typed head h.0.0.ty h.0.2), items_typed tail ty (i + 1) h.1)

  option_typed : (e : Option TypedExpr) → rules.IsTypedOption (around u) e → IsTypedOption u e
  option_typed None h = tt
  option_typed (Some e) h = expr_typed e h

  test_typed : (e : Option TypedExpr) → rules.IsTypedTestOption (around u) e → IsTypedOption u e
  test_typed None h = tt
  test_typed (Some e) h = expr_typed e h.1

  return_typed : (result : PlainType) (e : Option TypedExpr) → rules.IsTypedReturn (around u) result e → IsTypedReturn u (class_of result) e
  return_typed result None h = ap class_of h
  return_typed result (Some e) h = (same_type e result h.1, expr_typed e h.2)

  mutual
    stmt_typed : (s : TypedStmt) (f : TypedFunction) → rules.IsTypedStmt (around u) f.result f.locals s → IsTypedStmt u f s
    stmt_typed stmt.Empty f h = tt
    stmt_typed (stmt.Expr e) f h = expr_typed e h
    stmt_typed (stmt.Block ss) f h = stmts_typed ss f h
    stmt_typed (stmt.Init i item) f h =
        subst (λ t. IsTypedInit u t item) (sym (got f.locals i Void h.0 h.1)) (init_typed item h.0 h.2)
    stmt_typed (stmt.If e s) f h = (expr_typed e h.0.1, stmt_typed s f h.1)
    stmt_typed (stmt.IfElse e s t) f h = (expr_typed e h.0.1, stmt_typed s f h.1, stmt_typed t f h.2)
    stmt_typed (stmt.While e s) f h = (expr_typed e h.0.1, stmt_typed s f h.1)
    stmt_typed (stmt.Do s e) f h = (stmt_typed s f h.0, expr_typed e h.1.1)
    stmt_typed (stmt.For start test after s) f h =
        (stmts_typed start f h.0, test_typed test h.1, option_typed after h.2, stmt_typed s f h.3)
    stmt_typed stmt.Break f h = tt
    stmt_typed stmt.Continue f h = tt
    stmt_typed (stmt.Return e) f h = return_typed f.result e h

    stmts_typed : (ss : TypedStmts) (f : TypedFunction) → rules.AreTypedStmts (around u) f.result f.locals ss → AreTypedStmts u f ss
    stmts_typed stmts.NoStmts f h = tt
    stmts_typed (stmts.Stmt head tail) f h = (stmt_typed head f h.0, stmts_typed tail f h.1)

pub rules_give_values : RulesGiveValues
rules_give_values u h f =
    stmt_typed u h (function_at u f).body (function_at u f) (function_typed (around u) u.program.functions f h).1

pub typed_programs_give_values : TypedProgramsGiveValues
typed_programs_give_values u p v types = rules_give_values u (typed_trees_are_well_typed p u.program v types)
