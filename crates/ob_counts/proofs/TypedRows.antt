-- What the lists of typed trees count, where the program keeps them in vectors.
use Rattle.std.proofs.Common.{◌≡◌, ℕ, ◌+◌, Option, ◌⊎◌, ⊎_elim, refl, ap, ◌∙◌, arith}
use Rattle.std.specs.Prelude.{Vec, Box}
use Rattle.std.specs.declared.alloc.Global.{Global}
use Rattle.std.specs.List.{sum_by}
use Rattle.ob_tree.specs.Types.{PlainStructs}
use Rattle.ob_typed.specs.declared.names.Builtin.{Builtin}
use Rattle.ob_typed.specs.declared.expressions.TExpr.{TExpr}
use Rattle.ob_typed.specs.declared.expressions.TNode as node
use Rattle.ob_typed.specs.declared.expressions.TLean.TheBlock as nodes
use Rattle.ob_typed.specs.declared.expressions.TLean.TheBlock.{Row_of-TExpr, end_of-TExpr, more_of-TExpr, items-the_row-TExpr, items_hidden-the_row-TExpr-0}
use Rattle.ob_typed.specs.declared.statements.TInit as init
use Rattle.ob_typed.specs.declared.statements.TInit.{TInit}
use Rattle.ob_typed.specs.declared.statements.TInit.TheBlock as inits
use Rattle.ob_typed.specs.declared.statements.TInit.TheBlock.{Row_of-TInit, end_of-TInit, more_of-TInit, items-the_row-TInit, items_hidden-the_row-TInit-0}
use Rattle.ob_typed.specs.declared.statements.TStmt as stmt
use Rattle.ob_typed.specs.declared.statements.TStmt.{TStmt}
use Rattle.ob_typed.specs.declared.statements.TStmt.TheBlock as stmts
use Rattle.ob_typed.specs.declared.statements.TStmt.TheBlock.{Row_of-TStmt, end_of-TStmt, more_of-TStmt, items-the_row-TStmt, items_hidden-the_row-TStmt-0}
use Rattle.ob_typed.specs.TypedTree.{TypedStmt, TypedStmts}
use Rattle.ob_typed.specs.TypedView.{typed, typed_node, typed_expr, typed_option, typed_init, typed_stmt, argument_row, init_row, stmt_row}
use Rattle.ob_typed.specs.Counts.{copies, copies_of_node, copies_of_arguments, init_load, items_load, option_copies, start_load, stmt_load, stmts_load}
use Rattle.ob_counts.proofs.Sums.{total, summed}

abbrev of_expr : PlainStructs → TExpr → ℕ
of_expr s e = copies s (typed_expr e)

abbrev of_init : PlainStructs → TInit → ℕ
of_init s i = init_load s (typed_init i)

abbrev of_stmt : PlainStructs → TStmt → ℕ
of_stmt s x = stmt_load s (typed_stmt x)

abbrev of_start : PlainStructs → TStmt → ℕ
of_start s x = start_load s (TypedStmts.Stmt (typed_stmt x) TypedStmts.NoStmts)

arguments : (s : PlainStructs) (n : _) (row : Row_of-TExpr n) → copies_of_arguments s (argument_row row) ≡ total (of_expr s) (items-the_row-TExpr n row)
arguments s n end_of-TExpr = refl
arguments s n (more_of-TExpr l t e es) = ap (λ k. copies s (typed l t (typed_node e)) + k) (arguments s _ es)

arguments_counted : (s : PlainStructs) (es : Vec TExpr Global) → copies_of_arguments s (argument_row (nodes.hidden-the_row-TExpr-0 es)) ≡ sum_by (λ e. copies s (typed_expr e)) es.items
arguments_counted s es = arguments s _ (nodes.hidden-the_row-TExpr-0 es) ∙ summed (of_expr s) _ _ (items_hidden-the_row-TExpr-0 es)

pub call_counted : (s : PlainStructs) (e : TExpr) (es : Vec TExpr Global) → ((n : ℕ) × (e.node ≡ node.Call n es)) ⊎ ((b : Builtin) × (e.node ≡ node.Builtin b es)) →
    copies s (typed_expr e) ≡ sum_by (λ x. copies s (typed_expr x)) es.items
call_counted s e es h = ⊎_elim
    (λ (p : (n : ℕ) × (e.node ≡ node.Call n es)). ap (λ x. copies_of_node s (typed_node x)) p.1 ∙ arguments_counted s es)
    (λ (p : (b : Builtin) × (e.node ≡ node.Builtin b es)). ap (λ x. copies_of_node s (typed_node x)) p.1 ∙ arguments_counted s es)
    h

items : (s : PlainStructs) (n : _) (row : Row_of-TInit n) → items_load s (init_row row) ≡ total (of_init s) (items-the_row-TInit n row)
items s n end_of-TInit = refl
items s n (more_of-TInit i is) = ap (λ k. of_init s i + k) (items s _ is)

pub list_counted : (s : PlainStructs) (i : TInit) (is : Vec TInit Global) → i ≡ init.List is →
    init_load s (typed_init i) ≡ 1 + sum_by (λ x. init_load s (typed_init x)) is.items
list_counted s i is h =
    ap (of_init s) h
    ∙ ap (λ k. 1 + k) (items s _ (inits.hidden-the_row-TInit-0 is) ∙ summed (of_init s) _ _ (items_hidden-the_row-TInit-0 is))

statements : (s : PlainStructs) (n : _) (row : Row_of-TStmt n) → stmts_load s (stmt_row row) ≡ total (of_stmt s) (items-the_row-TStmt n row)
statements s n end_of-TStmt = refl
statements s n (more_of-TStmt x xs) = ap (λ k. of_stmt s x + k) (statements s _ xs)

pub block_counted : (s : PlainStructs) (x : TStmt) (xs : Vec TStmt Global) → x ≡ stmt.Block xs →
    stmt_load s (typed_stmt x) ≡ 1 + sum_by (λ y. stmt_load s (typed_stmt y)) xs.items
block_counted s x xs h =
    ap (of_stmt s) h
    ∙ ap (λ k. 1 + k) (statements s _ (stmts.hidden-the_row-TStmt-0 xs) ∙ summed (of_stmt s) _ _ (items_hidden-the_row-TStmt-0 xs))

start_first : (s : PlainStructs) (x : TypedStmt) (xs : TypedStmts) → start_load s (TypedStmts.Stmt x xs) ≡ start_load s (TypedStmts.Stmt x TypedStmts.NoStmts) + start_load s xs
start_first s (TypedStmt.Expr e) xs = omega arith
start_first s (TypedStmt.Init n i) xs = omega arith
start_first s TypedStmt.Empty xs = omega arith
start_first s (TypedStmt.Block ss) xs = omega arith
start_first s (TypedStmt.If c x) xs = omega arith
start_first s (TypedStmt.IfElse c x y) xs = omega arith
start_first s (TypedStmt.While c x) xs = omega arith
start_first s (TypedStmt.Do x c) xs = omega arith
start_first s (TypedStmt.For i c n x) xs = omega arith
start_first s TypedStmt.Break xs = omega arith
start_first s TypedStmt.Continue xs = omega arith
start_first s (TypedStmt.Return e) xs = omega arith

starts : (s : PlainStructs) (n : _) (row : Row_of-TStmt n) → start_load s (stmt_row row) ≡ total (of_start s) (items-the_row-TStmt n row)
starts s n end_of-TStmt = refl
starts s n (more_of-TStmt x xs) = start_first s (typed_stmt x) (stmt_row xs) ∙ ap (λ k. of_start s x + k) (starts s _ xs)

starts_counted : (s : PlainStructs) (xs : Vec TStmt Global) → start_load s (stmt_row (stmts.hidden-the_row-TStmt-0 xs)) ≡ sum_by (λ x. start_load s (TypedStmts.Stmt (typed_stmt x) TypedStmts.NoStmts)) xs.items
starts_counted s xs = starts s _ (stmts.hidden-the_row-TStmt-0 xs) ∙ summed (of_start s) _ _ (items_hidden-the_row-TStmt-0 xs)

pub for_counted : (s : PlainStructs) (x : TStmt) (xs : Vec TStmt Global) (test next : Option TExpr) (body : Box TStmt Global) → x ≡ stmt.For xs test next body →
    stmt_load s (typed_stmt x) ≡ 1 + (sum_by (λ y. start_load s (TypedStmts.Stmt (typed_stmt y) TypedStmts.NoStmts)) xs.items + (option_copies s (typed_option test) + (option_copies s (typed_option next) + stmt_load s (typed_stmt body.value))))
for_counted s x xs test next body h =
    ap (of_stmt s) h
    ∙ ap (λ k. 1 + (k + (option_copies s (typed_option test) + (option_copies s (typed_option next) + stmt_load s (typed_stmt body.value))))) (starts_counted s xs)
