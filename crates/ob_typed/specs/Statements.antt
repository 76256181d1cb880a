-- Statements (C99 6.8): what each is, or its first fault. A selection or an iteration statement is a block, and
-- so is each statement in it (6.8.4, 6.8.5); after a block the tags before it are in force again.
use Rattle.std.specs.Prelude.{ℕ, Bool, true, false, if◌then◌else◌, Option, Some, None, Ok, Err, List, [], ◌∷◌, ◌++◌}
use Rattle.ob_tree.specs.declared.faults.TypeKind.TheVariants as kind
use Rattle.ob_tree.specs.Trees.{Mark, ExprTree}
use Rattle.ob_tree.specs.Programs.{StartTree, StmtTree, BlockTrees}
use Rattle.ob_tree.specs.Programs.{StartTree as start, StmtTree as source, BlockTrees as items}
use Rattle.ob_tree.specs.Types.{PlainType}
use Rattle.ob_tree.specs.Types.{PlainType as type}
use Rattle.ob_typed.specs.TypedTree.{TypedExpr, TypedStmt, TypedStmts}
use Rattle.ob_typed.specs.TypedTree.{TypedStmt as stmt, TypedStmts as stmts}
use Rattle.ob_typed.specs.Faults.{Answer, Walk, fault, next, by}
use Rattle.ob_typed.specs.Scopes.{Env, deeper, leaving}
use Rattle.ob_typed.specs.TypeTests.{is_scalar, is_struct, is_unusable}
use Rattle.ob_typed.specs.Conversions.{Checked, as_type, fits, value, value_type}
use Rattle.ob_tree.specs.Levels.{mark_of}
use Rattle.ob_typed.specs.Expressions.{check}
use Rattle.ob_typed.specs.Declarations.{Body, Entered, with_known, in_body, check_declaration}

abbrev pub stmt_list : List TypedStmt → TypedStmts
stmt_list [] = stmts.NoStmts
stmt_list (s ∷ ss) = stmts.Stmt s (stmt_list ss)

-- a block, after which the tags before it are in force again
abbrev pub block : {A : Type 0} → (before : Body) → Walk Body A → Walk Body A
block before (Ok r) = Ok (r.0, with_known (leaving before.known r.1.known) r.1)
block before (Err f) = Err f

-- ---- the expressions of statements

-- the value of an expression statement is dropped (6.8.3); it is no structure
abbrev pub dropped_rule : Mark → TypedExpr → Answer TypedExpr
dropped_rule m x = if is_struct (value_type x) then fault kind.Operand m.at else Ok x

abbrev pub check_dropped : Env → ExprTree → Body → Walk Body TypedExpr
check_dropped env e b = next (in_body b (check env e b.known)) (λ x b1. by (dropped_rule (mark_of e) (value x)) b1)

-- a controlling expression is a number or a pointer (6.8.4, 6.8.5)
abbrev pub control_rule : Mark → TypedExpr → Answer TypedExpr
control_rule m x = if is_scalar (value_type x) then Ok x else fault kind.Operand m.at

abbrev pub check_control : Env → ExprTree → Body → Walk Body TypedExpr
check_control env e b = next (in_body b (check env e b.known)) (λ x b1. by (control_rule (mark_of e) (value x)) b1)

-- an expression that may be missing
abbrev pub check_option : (Env → ExprTree → Body → Walk Body TypedExpr) → Env → Option ExprTree → Body → Walk Body (Option TypedExpr)
check_option walk env None b = Ok (None, b)
check_option walk env (Some e) b = next (walk env e b) (λ x b1. Ok (Some x, b1))

abbrev pub expr_stmt : Option TypedExpr → TypedStmt
expr_stmt None = stmt.Empty
expr_stmt (Some x) = stmt.Expr x

-- ---- jumps (6.8.6)

abbrev pub jump : (loop : Bool) → (first : ℕ) → TypedStmt → Answer TypedStmt
jump true first s = Ok s
jump false first s = fault kind.Jump first

abbrev pub return_nothing : (result : PlainType) → (first : ℕ) → Answer TypedStmt
return_nothing type.Void first = Ok (stmt.Return None)
return_nothing _ first = fault kind.Jump first

-- the value converts to the type of the function, which isn't `void` (6.8.6.4)
abbrev pub returned : (result : PlainType) → (first : ℕ) → Mark → Checked → Answer TypedStmt
returned type.Void first m x = fault kind.Jump first
returned t first m x = if fits x t then Ok (stmt.Return (Some (as_type (value x) t))) else fault kind.Assign m.first

abbrev pub return_rule : (result : PlainType) → (first : ℕ) → Mark → Checked → Answer TypedStmt
return_rule t first m x = if is_unusable (value_type (value x)) then fault kind.Operand m.at else returned t first m x

abbrev pub check_return : Env → (result : PlainType) → (first : ℕ) → Option ExprTree → Body → Walk Body TypedStmt
check_return env t first None b = by (return_nothing t first) b
check_return env t first (Some e) b = next (in_body b (check env e b.known)) (λ x b1. by (return_rule t first (mark_of e) x) b1)

-- ---- what stands before the first semicolon of a `for` (6.8.5.3)

abbrev pub start_list : Option TypedExpr → List TypedStmt
start_list None = []
start_list (Some x) = stmt.Expr x ∷ []

abbrev pub check_start : Env → StartTree → Body → Walk Body Entered
check_start env (start.Expr e) b =
    next (check_option check_dropped env e b) (λ x b1. Ok (record { env = env; statements = start_list x }, b1))
check_start env (start.Local d) b = check_declaration env d b

-- ---- all statements; `loop` says whether one is around, and `result` is the type of the function

abbrev mutual
  pub check_stmt : Env → (loop : Bool) → (result : PlainType) → StmtTree → Body → Walk Body TypedStmt
  check_stmt env loop t (source.Block first line is) b =
      next (block b (check_block (deeper env) loop t [] is b)) (λ ss b1. Ok (stmt.Block (stmt_list ss), b1))
  check_stmt env loop t (source.Expr first line e) b = next (check_option check_dropped env e b) (λ x b1. Ok (expr_stmt x, b1))
  check_stmt env loop t (source.If first line c s) b =
      block b (next (check_control (deeper env) c b) (λ x b1. next (check_stmt (deeper (deeper env)) loop t s b1) (λ y b2. Ok (stmt.If x y, b2))))
  check_stmt env loop t (source.IfElse first line c s other) b =
      block b (next (check_control (deeper env) c b) (λ x b1. next (block b1 (check_stmt (deeper (deeper env)) loop t s b1)) (λ y b2.
      next (check_stmt (deeper (deeper env)) loop t other b2) (λ z b3. Ok (stmt.IfElse x y z, b3)))))
  check_stmt env loop t (source.While first line c s) b =
      block b (next (check_control (deeper env) c b) (λ x b1. next (check_stmt (deeper (deeper env)) true t s b1) (λ y b2. Ok (stmt.While x y, b2))))
  check_stmt env loop t (source.Do first line s c) b =
      block b (next (block b (check_stmt (deeper (deeper env)) true t s b)) (λ y b1. next (check_control (deeper env) c b1) (λ x b2. Ok (stmt.Do y x, b2))))
  check_stmt env loop t (source.For first line i c n s) b =
      block b (next (check_start (deeper env) i b) (λ e b1. next (check_option check_control e.env c b1) (λ x b2. next (check_option check_dropped e.env n b2) (λ y b3.
      next (check_stmt (deeper e.env) true t s b3) (λ z b4. Ok (stmt.For (stmt_list e.statements) x y z, b4))))))
  check_stmt env loop t (source.Break first line) b = by (jump loop first stmt.Break) b
  check_stmt env loop t (source.Continue first line) b = by (jump loop first stmt.Continue) b
  check_stmt env loop t (source.Return first line e) b = check_return env t first e b

  -- what stands in a block, after what stands before
  pub check_block : Env → (loop : Bool) → (result : PlainType) → (done : List TypedStmt) → BlockTrees → Body → Walk Body (List TypedStmt)
  check_block env loop t done items.NoItems b = Ok (done, b)
  check_block env loop t done (items.Declaration d rest) b =
      next (check_declaration env d b) (λ e b1. check_block e.env loop t (done ++ e.statements) rest b1)
  check_block env loop t done (items.Statement s rest) b =
      next (check_stmt env loop t s b) (λ x b1. check_block env loop t (done ++ x ∷ []) rest b1)
