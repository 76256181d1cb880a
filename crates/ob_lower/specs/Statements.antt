-- The code of a statement (C99 6.8). `break` goes over the next `out` instructions after the statement, and `continue` over the next `on`.
-- A Tick takes the step of each statement and of each turn of a loop. The only jumps back are those of loops, to the Tick of a turn.
use Rattle.std.specs.Prelude.{ℕ, ◌+◌, true, false, List, [], ◌∷◌, ◌++◌, length, Option, Some, None}
use Rattle.ob_typed.specs.TypedTree.{TypedExpr, TypedStmt, TypedStmts}
use Rattle.ob_typed.specs.TypedTree.{TypedStmt as stmt, TypedStmts as stmts}
use Rattle.ob_code.specs.declared.instructions.Instr.{Instr}
use Rattle.ob_code.specs.declared.instructions.Instr.TheVariants as instr
use Rattle.ob_lower.specs.Conditions.{Condition, Ending, always, branch, either_way, ending}
use Rattle.ob_lower.specs.Expressions.{code, condition, operand}
use Rattle.ob_lower.specs.Homes.{Context}
use Rattle.ob_lower.specs.Initialisers.{init_code}
use Rattle.ob_lower.specs.Instructions.{Operand, back, dropped, skip}
use Rattle.ob_lower.specs.Numbers.{whole}

abbrev pub dropped_code : Context → TypedExpr → List Instr
dropped_code c e = code c e dropped c.free

abbrev pub optional_code : Context → Option TypedExpr → List Instr
optional_code c None = []
optional_code c (Some e) = dropped_code c e

abbrev pub condition_of : Context → TypedExpr → Condition
condition_of c e = condition c e c.free

-- a loop's test is true where it is left out (6.8.5.3)
abbrev pub optional_condition : Context → Option TypedExpr → Condition
optional_condition c None = always true
optional_condition c (Some e) = condition_of c e

-- ---- one after another

-- a statement before others, and others after it
abbrev pub before : (ℕ → ℕ → List Instr) → List Instr → (out on : ℕ) → List Instr
before first others out on = first (length others + out) (length others + on) ++ others

-- ---- choices (6.8.4)

abbrev pub if_code : Condition → List Instr → List Instr
if_code test guarded = branch test false (length guarded) ++ guarded

abbrev pub if_else_code : Condition → (ℕ → ℕ → List Instr) → List Instr → (out on : ℕ) → List Instr
if_else_code test first other out on = either_way test (first (length other + 1 + out) (length other + 1 + on)) other

-- ---- loops (6.8.5): a turn is its Tick, the body, and what comes after the body; at the end stands the test

abbrev pub turn : (ℕ → ℕ → List Instr) → List Instr → Ending → List Instr
turn body next e = instr.Tick ∷ body (length next + length e.code + 1) 0 ++ next

abbrev pub closed : List Instr → Ending → List Instr
closed turn e = turn ++ e.code ++ e.jump (back (length turn + length e.code)) ∷ []

-- with the test before the first turn, and without
abbrev pub test_first : List Instr → Ending → List Instr
test_first turn e = skip (length turn) ∷ closed turn e

abbrev pub while_code : (ℕ → ℕ → List Instr) → List Instr → Ending → List Instr
while_code body next e = test_first (turn body next e) e

abbrev pub do_code : (ℕ → ℕ → List Instr) → List Instr → Ending → List Instr
do_code body next e = closed (turn body next e) e

abbrev pub for_code : Option TypedExpr → (ℕ → ℕ → List Instr) → List Instr → Ending → List Instr
for_code None body next e = do_code body next e
for_code (Some test) body next e = while_code body next e

-- ---- `return` (6.8.6.4)

abbrev pub return_value : Operand → List Instr
return_value o = o.code ++ instr.Return o.word ∷ []

abbrev pub return_code : Context → Option TypedExpr → List Instr
return_code c None = instr.Return c.zero ∷ []
return_code c (Some e) = return_value (operand c e whole c.free)

-- ---- statements

-- what starts a `for` takes no step
abbrev pub start_code : Context → TypedStmts → List Instr
start_code c stmts.NoStmts = []
start_code c (stmts.Stmt (stmt.Expr e) ss) = dropped_code c e ++ start_code c ss
start_code c (stmts.Stmt (stmt.Init v item) ss) = init_code c v item ++ start_code c ss
start_code c (stmts.Stmt s ss) = start_code c ss

abbrev mutual
  pub stmt_code : Context → TypedStmt → (out on : ℕ) → List Instr
  stmt_code c stmt.Empty out on = instr.Tick ∷ []
  stmt_code c (stmt.Expr e) out on = instr.Tick ∷ dropped_code c e
  stmt_code c (stmt.Block ss) out on = instr.Tick ∷ stmts_code c ss out on
  stmt_code c (stmt.Init v item) out on = init_code c v item
  stmt_code c (stmt.If e s) out on = instr.Tick ∷ if_code (condition_of c e) (stmt_code c s out on)
  stmt_code c (stmt.IfElse e s other) out on =
      instr.Tick ∷ if_else_code (condition_of c e) (stmt_code c s) (stmt_code c other out on) out on
  stmt_code c (stmt.While e s) out on = instr.Tick ∷ while_code (stmt_code c s) [] (ending c.zero (condition_of c e))
  stmt_code c (stmt.Do s e) out on = instr.Tick ∷ do_code (stmt_code c s) [] (ending c.zero (condition_of c e))
  stmt_code c (stmt.For start test next s) out on =
      instr.Tick ∷ start_code c start
      ++ for_code test (stmt_code c s) (optional_code c next) (ending c.zero (optional_condition c test))
  stmt_code c stmt.Break out on = instr.Tick ∷ skip out ∷ []
  stmt_code c stmt.Continue out on = instr.Tick ∷ skip on ∷ []
  stmt_code c (stmt.Return e) out on = instr.Tick ∷ return_code c e

  pub stmts_code : Context → TypedStmts → (out on : ℕ) → List Instr
  stmts_code c stmts.NoStmts out on = []
  stmts_code c (stmts.Stmt s ss) out on = before (stmt_code c s) (stmts_code c ss out on) out on
