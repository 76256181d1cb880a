-- Statements (C99 6.8). Each statement that is begun takes a step, and so does each turn of a loop before its body runs. A
-- declaration takes none, nor does what starts a `for`.
use Rattle.std.specs.Prelude.{true, Option, Some, None}
use Rattle.ob_model.specs.declared.values.Value.{Value}
use Rattle.ob_typed.specs.TypedTree.{TypedExpr, TypedStmt, TypedStmts}
use Rattle.ob_typed.specs.TypedTree.{TypedStmt as stmt}
use Rattle.ob_typed.specs.TypedTree.TypedStmts.{NoStmts, Stmt}
use Rattle.ob_meaning.specs.Expressions.{choose, value}
use Rattle.ob_meaning.specs.Initialisers.{initialise_local}
use Rattle.ob_meaning.specs.Setup.{Below, Flow, next, broke, continued, gave, Loop, Setup}
use Rattle.ob_meaning.specs.Values.{is_true, nothing, truth}
use Rattle.ob_meaning.specs.World.{World, Run, go, bind, step}

-- goes on where a statement has run to its end
abbrev pub goes_on : (World → Run Flow) → Flow → World → Run Flow
goes_on k next w = k w
goes_on k broke w = go broke w
goes_on k continued w = go continued w
goes_on k (gave v) w = go (gave v) w

abbrev pub then_do : Run Flow → (World → Run Flow) → Run Flow
then_do r k = bind r (goes_on k)

-- goes on with a loop after its body: `continue` has ended the body alone, `break` the loop (6.8.6)
abbrev pub loops_on : (World → Run Flow) → Flow → World → Run Flow
loops_on k next w = k w
loops_on k broke w = go next w
loops_on k continued w = k w
loops_on k (gave v) w = go (gave v) w

abbrev pub then_turn : Run Flow → (World → Run Flow) → Run Flow
then_turn r k = bind r (loops_on k)

-- an expression that may be left out; a loop's test is true then (6.8.5.3)
abbrev pub optional : Value → Setup → Below → Option TypedExpr → World → Run Value
optional otherwise u m None w = go otherwise w
optional otherwise u m (Some e) w = value u m e w

-- a value that is dropped
abbrev pub dropped : (World → Run Value) → World → Run Flow
dropped run w = bind (run w) (λ x w1. go next w1)

-- ---- loops (6.8.5)

-- a turn: its step, the body, what comes after the body, and the further turns
abbrev pub turn : (World → Run Flow) → (World → Run Value) → (World → Run Flow) → World → Run Flow
turn body after further w =
    step w (λ w1. then_turn (body w1) (λ w2. bind (after w2) (λ x w3. further w3)))

-- the test, and then the loop's end or a turn
abbrev pub looped : (World → Run Value) → (World → Run Flow) → World → Run Flow
looped test run w = bind (test w) (λ x w1. choose (is_true x) run (go next) w1)

abbrev pub loop_of : Option TypedExpr → Option TypedExpr → TypedStmt → Loop
loop_of test after body = record { test = test; after = after; body = body }

-- ---- statements

abbrev mutual
  pub exec : Setup → Below → TypedStmt → World → Run Flow
  exec u m stmt.Empty w = step w (go next)
  exec u m (stmt.Expr e) w = step w (dropped (value u m e))
  exec u m (stmt.Block ss) w = step w (exec_all u m ss)
  exec u m (stmt.Init i item) w = dropped (initialise_local u m i item) w
  exec u m (stmt.If e s) w =
      step w (λ w1. bind (value u m e w1) (λ x w2. choose (is_true x) (exec u m s) (go next) w2))
  exec u m (stmt.IfElse e s t) w =
      step w (λ w1. bind (value u m e w1) (λ x w2. choose (is_true x) (exec u m s) (exec u m t) w2))
  exec u m (stmt.While e s) w =
      step w (looped (value u m e) (turn (exec u m s) (go nothing) (m.turns (loop_of (Some e) None s))))
  exec u m (stmt.Do s e) w = step w (turn (exec u m s) (go nothing) (m.turns (loop_of (Some e) None s)))
  exec u m (stmt.For start test after s) w =
      step w (λ w1.
      then_do (start_all u m start w1)
      (looped (optional (truth true) u m test) (turn (exec u m s) (optional nothing u m after) (m.turns (loop_of test after s)))))
  exec u m stmt.Break w = step w (go broke)
  exec u m stmt.Continue w = step w (go continued)
  exec u m (stmt.Return e) w = step w (λ w1. bind (optional nothing u m e w1) (λ v w2. go (gave v) w2))

  -- one after another
  pub exec_all : Setup → Below → TypedStmts → World → Run Flow
  exec_all u m NoStmts w = go next w
  exec_all u m (Stmt head tail) w = then_do (exec u m head w) (exec_all u m tail)

  -- what starts a `for`: expressions and initialisers alone
  pub start_all : Setup → Below → TypedStmts → World → Run Flow
  start_all u m NoStmts w = go next w
  start_all u m (Stmt head tail) w = then_do (start_one u m head w) (start_all u m tail)

  pub start_one : Setup → Below → TypedStmt → World → Run Flow
  start_one u m (stmt.Expr e) w = dropped (value u m e) w
  start_one u m (stmt.Init i item) w = dropped (initialise_local u m i item) w
  start_one u m other w = go next w

-- a loop from its test on
abbrev pub turns : Setup → Below → Loop → World → Run Flow
turns u m loop w =
    looped (optional (truth true) u m loop.test)
    (turn (exec u m loop.body) (optional nothing u m loop.after) (m.turns loop)) w
