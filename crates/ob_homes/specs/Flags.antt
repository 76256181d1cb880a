-- A flag for each variable of a function: whether something of a tree exposes it. `flags_with` says which flags are raised; the
-- walk of a tree, part after part, raises the same.
use Rattle.std.specs.Prelude.{ℕ, ◌+◌, ◌==◌, Bool, true, false, not, ◌||◌, List, [], ◌∷◌, Option, Some, None, length, replicate, slice_get, slice_set}
use Rattle.ob_tree.specs.Types.{PlainType}
use Rattle.ob_typed.specs.TypedTree.{TypedExpr, TypedExprs, TypedFunction, TypedInit, TypedInits, TypedLean, TypedNode, TypedPlace, TypedStmt, TypedStmts}
use Rattle.ob_typed.specs.TypedTree.TypedExpr.{Typed}
use Rattle.ob_typed.specs.TypedTree.TypedPlace.{Place}
use Rattle.ob_typed.specs.TypedTree.{TypedExprs as exprs, TypedInit as init, TypedInits as inits, TypedLean as at, TypedNode as node, TypedStmt as stmt, TypedStmts as stmts}
use Rattle.ob_typed.specs.TypeTests.{same_type}
use Rattle.ob_lower.specs.Variables.{exposes_in_stmt}

-- the flags of the variables from v on, of these types, once more is known to expose variables
abbrev pub flags_with : (ℕ → PlainType → Bool) → (v : ℕ) → List PlainType → List Bool → List Bool
flags_with exposed v [] flags = flags
flags_with exposed v (t ∷ ts) [] = []
flags_with exposed v (t ∷ ts) (flag ∷ flags) = (flag || exposed v t) ∷ flags_with exposed (v + 1) ts flags

-- those of a function's variables
abbrev pub exposed_flags : TypedFunction → List Bool
exposed_flags f = flags_with (λ v t. exposes_in_stmt v t f.body) 0 f.locals (replicate (length f.locals) false)

-- ---- the walk

abbrev pub raise_if : Bool → ℕ → List Bool → List Bool
raise_if true n flags = slice_set flags n true
raise_if false n flags = flags

-- variable n, where there is one and its type passes
abbrev pub raise_at : (PlainType → Bool) → Option PlainType → ℕ → List Bool → List Bool
raise_at passes None n flags = flags
raise_at passes (Some t) n flags = raise_if (passes t) n flags

abbrev pub with_variable : ℕ → List PlainType → List Bool → List Bool
with_variable n ts flags = raise_at (λ t. true) (slice_get ts n) n flags

abbrev pub with_variable_as : ℕ → PlainType → List PlainType → List Bool → List Bool
with_variable_as n ty ts flags = raise_at (λ t. not (same_type ty t)) (slice_get ts n) n flags

abbrev mutual
  pub with_expr : TypedExpr → List PlainType → List Bool → List Bool
  with_expr (Typed line ty what) ts flags = with_node what ts flags

  pub with_place : TypedPlace → List PlainType → List Bool → List Bool
  with_place (Place line ty lean) ts flags = with_placed ty lean ts flags

  -- a place of this type
  pub with_placed : PlainType → TypedLean → List PlainType → List Bool → List Bool
  with_placed ty (at.Local n) ts flags = with_variable_as n ty ts flags
  with_placed ty (at.Static n) ts flags = flags
  with_placed ty (at.Value e) ts flags = with_expr e ts flags
  with_placed ty (at.Slide lean scale minus number_first e) ts flags = with_expr e ts (with_lean lean ts flags)
  with_placed ty (at.Member lean offset) ts flags = with_lean lean ts flags

  pub with_lean : TypedLean → List PlainType → List Bool → List Bool
  with_lean (at.Static n) ts flags = flags
  with_lean (at.Local n) ts flags = with_variable n ts flags
  with_lean (at.Value e) ts flags = with_expr e ts flags
  with_lean (at.Slide lean scale minus number_first e) ts flags = with_expr e ts (with_lean lean ts flags)
  with_lean (at.Member lean offset) ts flags = with_lean lean ts flags

  pub with_node : TypedNode → List PlainType → List Bool → List Bool
  with_node (node.Num n) ts flags = flags
  with_node node.Null ts flags = flags
  with_node (node.Read p) ts flags = with_place p ts flags
  with_node (node.Lean lean) ts flags = with_lean lean ts flags
  with_node (node.Convert k e) ts flags = with_expr e ts flags
  with_node (node.ToVoid e) ts flags = with_expr e ts flags
  with_node (node.Arith op k a b) ts flags = with_expr b ts (with_expr a ts flags)
  with_node (node.Compare r a b) ts flags = with_expr b ts (with_expr a ts flags)
  with_node (node.PtrCompare r a b) ts flags = with_expr b ts (with_expr a ts flags)
  with_node (node.PtrDiff size a b) ts flags = with_expr b ts (with_expr a ts flags)
  with_node (node.And a b) ts flags = with_expr b ts (with_expr a ts flags)
  with_node (node.Or a b) ts flags = with_expr b ts (with_expr a ts flags)
  with_node (node.Cond a b c) ts flags = with_expr c ts (with_expr b ts (with_expr a ts flags))
  with_node (node.Comma a b) ts flags = with_expr b ts (with_expr a ts flags)
  with_node (node.Assign p e) ts flags = with_expr e ts (with_place p ts flags)
  with_node (node.Update op k post p e) ts flags = with_expr e ts (with_place p ts flags)
  with_node (node.PtrUpdate scale minus post p e) ts flags = with_expr e ts (with_place p ts flags)
  with_node (node.CopyStruct (Place line ty to) (Place from_line from_ty from)) ts flags = with_lean from ts (with_lean to ts flags)
  with_node (node.Call f es) ts flags = with_arguments es ts flags
  with_node (node.CallBuiltin b es) ts flags = with_arguments es ts flags

  pub with_arguments : TypedExprs → List PlainType → List Bool → List Bool
  with_arguments exprs.NoArguments ts flags = flags
  with_arguments (exprs.Argument e es) ts flags = with_arguments es ts (with_expr e ts flags)

abbrev pub with_option : Option TypedExpr → List PlainType → List Bool → List Bool
with_option None ts flags = flags
with_option (Some e) ts flags = with_expr e ts flags

-- the initialiser of variable n, which may name n itself as the whole that it is copied from, or as a pointer among its items
abbrev pub unless : Bool → ℕ → List PlainType → List Bool → List Bool
unless true m ts flags = flags
unless false m ts flags = with_variable m ts flags

abbrev pub with_further : ℕ → TypedLean → List PlainType → List Bool → List Bool
with_further n (at.Local m) ts flags = unless (n == m) m ts flags
with_further n (at.Static i) ts flags = flags
with_further n (at.Value e) ts flags = with_expr e ts flags
with_further n (at.Slide lean scale minus number_first e) ts flags = with_expr e ts (with_lean lean ts flags)
with_further n (at.Member lean offset) ts flags = with_lean lean ts flags

abbrev pub with_own_node : ℕ → TypedNode → List PlainType → List Bool → List Bool
with_own_node n (node.Lean lean) ts flags = with_further n lean ts flags
with_own_node n what ts flags = with_node what ts flags

abbrev pub with_own_expr : ℕ → TypedExpr → List PlainType → List Bool → List Bool
with_own_expr n (Typed line ty what) ts flags = with_own_node n what ts flags

abbrev mutual
  pub with_own_item : ℕ → TypedInit → List PlainType → List Bool → List Bool
  with_own_item n (init.Value e) ts flags = with_own_expr n e ts flags
  with_own_item n (init.Chars bytes) ts flags = flags
  with_own_item n (init.Items is) ts flags = with_own_items n is ts flags
  with_own_item n (init.Copy (Place line ty from)) ts flags = with_lean from ts flags

  pub with_own_items : ℕ → TypedInits → List PlainType → List Bool → List Bool
  with_own_items n inits.NoItems ts flags = flags
  with_own_items n (inits.Item i is) ts flags = with_own_items n is ts (with_own_item n i ts flags)

abbrev pub with_own : ℕ → TypedInit → List PlainType → List Bool → List Bool
with_own n (init.Value e) ts flags = with_expr e ts flags
with_own n (init.Chars bytes) ts flags = flags
with_own n (init.Items is) ts flags = with_own_items n is ts flags
with_own n (init.Copy (Place line ty from)) ts flags = with_further n from ts flags

abbrev mutual
  pub with_stmt : TypedStmt → List PlainType → List Bool → List Bool
  with_stmt stmt.Empty ts flags = flags
  with_stmt (stmt.Expr e) ts flags = with_expr e ts flags
  with_stmt (stmt.Block ss) ts flags = with_stmts ss ts flags
  with_stmt (stmt.Init n i) ts flags = with_own n i ts flags
  with_stmt (stmt.If e s) ts flags = with_stmt s ts (with_expr e ts flags)
  with_stmt (stmt.IfElse e s other) ts flags = with_stmt other ts (with_stmt s ts (with_expr e ts flags))
  with_stmt (stmt.While e s) ts flags = with_stmt s ts (with_expr e ts flags)
  with_stmt (stmt.Do s e) ts flags = with_expr e ts (with_stmt s ts flags)
  with_stmt (stmt.For start test next s) ts flags =
      with_stmt s ts (with_option next ts (with_option test ts (with_stmts start ts flags)))
  with_stmt stmt.Break ts flags = flags
  with_stmt stmt.Continue ts flags = flags
  with_stmt (stmt.Return e) ts flags = with_option e ts flags

  pub with_stmts : TypedStmts → List PlainType → List Bool → List Bool
  with_stmts stmts.NoStmts ts flags = flags
  with_stmts (stmts.Stmt s ss) ts flags = with_stmts ss ts (with_stmt s ts flags)
