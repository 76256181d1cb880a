-- The parts of statements, walked in the block of the whole (C99 6.8.4, 6.8.5), and one item of a block. These serve the
-- proof: a statement in a block of its own is a part only where something follows it, since the block of the whole ends after it.
use Rattle.std.specs.Prelude.{Bool, true, Option, Ok, List, [], ◌∷◌, ◌++◌}
use Rattle.ob_tree.specs.Trees.{ExprTree}
use Rattle.ob_tree.specs.Programs.{StartTree, StmtTree, BlockTrees}
use Rattle.ob_tree.specs.Programs.{BlockTrees as items}
use Rattle.ob_tree.specs.Types.{PlainType}
use Rattle.ob_typed.specs.TypedTree.{TypedExpr, TypedStmt}
use Rattle.ob_typed.specs.TypedTree.{TypedStmt as stmt}
use Rattle.ob_typed.specs.Faults.{Walk, next}
use Rattle.ob_typed.specs.Scopes.{Env, deeper}
use Rattle.ob_typed.specs.Declarations.{Body, Entered, check_declaration}
use Rattle.ob_typed.specs.Statements.{block, check_control, check_dropped, check_option, check_start, check_stmt, stmt_list}

unfoldable pub if_parts : Env → (loop : Bool) → PlainType → ExprTree → StmtTree → Body → Walk Body TypedStmt
if_parts env loop t c s b = next (check_control env c b) (λ x b1. next (check_stmt (deeper env) loop t s b1) (λ y b2. Ok (stmt.If x y, b2)))

-- what stands before the `else`, and what behind it
unfoldable pub if_begun : Env → (loop : Bool) → PlainType → ExprTree → StmtTree → Body → Walk Body (TypedExpr × TypedStmt)
if_begun env loop t c s b = next (check_control env c b) (λ x b1. next (block b1 (check_stmt (deeper env) loop t s b1)) (λ y b2. Ok ((x, y), b2)))

unfoldable pub if_ended : Env → (loop : Bool) → PlainType → TypedExpr × TypedStmt → StmtTree → Body → Walk Body TypedStmt
if_ended env loop t p other b = next (check_stmt (deeper env) loop t other b) (λ z b1. Ok (stmt.IfElse p.0 p.1 z, b1))

unfoldable pub while_parts : Env → PlainType → ExprTree → StmtTree → Body → Walk Body TypedStmt
while_parts env t c s b = next (check_control env c b) (λ x b1. next (check_stmt (deeper env) true t s b1) (λ y b2. Ok (stmt.While x y, b2)))

unfoldable pub do_parts : Env → PlainType → StmtTree → ExprTree → Body → Walk Body TypedStmt
do_parts env t s c b =
    next (block b (check_stmt (deeper env) true t s b)) (λ y b1. next (check_control env c b1) (λ x b2. Ok (stmt.Do y x, b2)))

-- what follows the start of a `for`, and what follows its test
unfoldable pub for_last : Env → PlainType → (start : List TypedStmt) → Option TypedExpr → Option ExprTree → StmtTree → Body → Walk Body TypedStmt
for_last env t start x n s b =
    next (check_option check_dropped env n b) (λ y b1. next (check_stmt (deeper env) true t s b1) (λ z b2. Ok (stmt.For (stmt_list start) x y z, b2)))

unfoldable pub for_rest : Env → PlainType → (start : List TypedStmt) → (c n : Option ExprTree) → StmtTree → Body → Walk Body TypedStmt
for_rest env t start c n s b = next (check_option check_control env c b) (λ x b1. for_last env t start x n s b1)

unfoldable pub for_parts : Env → PlainType → StartTree → (c n : Option ExprTree) → StmtTree → Body → Walk Body TypedStmt
for_parts env t i c n s b = next (check_start env i b) (λ e b1. for_rest e.env t e.statements c n s b1)

-- the first item of a block, after what stands before: the declarations in force then, and the statements so far
abbrev pub check_first : Env → (loop : Bool) → (result : PlainType) → (done : List TypedStmt) → BlockTrees → Body → Walk Body Entered
check_first env loop t done items.NoItems b = Ok (record { env = env; statements = done }, b)
check_first env loop t done (items.Declaration d rest) b =
    next (check_declaration env d b) (λ e b1. Ok (record { env = e.env; statements = done ++ e.statements }, b1))
check_first env loop t done (items.Statement s rest) b =
    next (check_stmt env loop t s b) (λ x b1. Ok (record { env = env; statements = done ++ x ∷ [] }, b1))
