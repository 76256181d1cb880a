-- What the lists of typed trees expose, where the program keeps them in vectors.
use Rattle.std.proofs.Common.{◌≡◌, ℕ, Bool, List, Option, ◌⊎◌, ⊎_elim, refl, ap, ◌∙◌}
use Rattle.std.specs.Prelude.{Vec, Box, fold}
use Rattle.std.specs.declared.alloc.Global.{Global}
use Rattle.ob_tree.specs.Types.{PlainType}
use Rattle.ob_typed.specs.declared.names.Builtin.{Builtin}
use Rattle.ob_typed.specs.declared.expressions.TExpr.{TExpr}
use Rattle.ob_typed.specs.declared.expressions.TNode as node
use Rattle.ob_typed.specs.declared.expressions.TLean.TheBlock as nodes
use Rattle.ob_typed.specs.declared.expressions.TLean.TheBlock.{Row_of-TExpr, end_of-TExpr, more_of-TExpr, items-the_row-TExpr, items_hidden-the_row-TExpr-0}
use Rattle.ob_typed.specs.declared.statements.TInit as init
use Rattle.ob_typed.specs.declared.statements.TInit.{TInit}
use Rattle.ob_typed.specs.declared.statements.TInit.TheBlock as inits
use Rattle.ob_typed.specs.declared.statements.TInit.TheBlock.{Row_of-TInit, end_of-TInit, more_of-TInit, items-the_row-TInit, items_hidden-the_row-TInit-0}
use Rattle.ob_typed.specs.declared.statements.TStmt as stmt
use Rattle.ob_typed.specs.declared.statements.TStmt.{TStmt}
use Rattle.ob_typed.specs.declared.statements.TStmt.TheBlock as stmts
use Rattle.ob_typed.specs.declared.statements.TStmt.TheBlock.{Row_of-TStmt, end_of-TStmt, more_of-TStmt, items-the_row-TStmt, items_hidden-the_row-TStmt-0}
use Rattle.ob_typed.specs.TypedView.{typed, typed_node, typed_expr, typed_option, typed_init, typed_stmt, argument_row, init_row, stmt_row}
use Rattle.ob_homes.specs.Flags.{with_node, with_expr, with_arguments, with_option, with_own, with_own_item, with_own_items, with_stmt, with_stmts}

abbrev expr_step : List PlainType → List Bool → TExpr → List Bool
expr_step ts fs e = with_expr (typed_expr e) ts fs

abbrev init_step : ℕ → List PlainType → List Bool → TInit → List Bool
init_step n ts fs i = with_own_item n (typed_init i) ts fs

abbrev stmt_step : List PlainType → List Bool → TStmt → List Bool
stmt_step ts fs s = with_stmt (typed_stmt s) ts fs

arguments : (ts : List PlainType) (fs : List Bool) (n : _) (row : Row_of-TExpr n) → with_arguments (argument_row row) ts fs ≡ fold (expr_step ts) fs (items-the_row-TExpr n row)
arguments ts fs n end_of-TExpr = refl
arguments ts fs n (more_of-TExpr l t e es) = arguments ts (with_expr (typed l t (typed_node e)) ts fs) _ es

arguments_raise : (ts : List PlainType) (fs : List Bool) (es : Vec TExpr Global) → with_arguments (argument_row (nodes.hidden-the_row-TExpr-0 es)) ts fs ≡ fold (expr_step ts) fs es.items
arguments_raise ts fs es = arguments ts fs _ (nodes.hidden-the_row-TExpr-0 es) ∙ ap (fold (expr_step ts) fs) (items_hidden-the_row-TExpr-0 es)

pub call_raises : (ts : List PlainType) (fs : List Bool) (e : TExpr) (es : Vec TExpr Global) → ((n : ℕ) × (e.node ≡ node.Call n es)) ⊎ ((b : Builtin) × (e.node ≡ node.Builtin b es)) →
    with_expr (typed_expr e) ts fs ≡ fold (λ gs x. with_expr (typed_expr x) ts gs) fs es.items
call_raises ts fs e es h = ⊎_elim
    (λ (p : (n : ℕ) × (e.node ≡ node.Call n es)). ap (λ x. with_node (typed_node x) ts fs) p.1 ∙ arguments_raise ts fs es)
    (λ (p : (b : Builtin) × (e.node ≡ node.Builtin b es)). ap (λ x. with_node (typed_node x) ts fs) p.1 ∙ arguments_raise ts fs es)
    h

items : (own : ℕ) (ts : List PlainType) (fs : List Bool) (n : _) (row : Row_of-TInit n) → with_own_items own (init_row row) ts fs ≡ fold (init_step own ts) fs (items-the_row-TInit n row)
items own ts fs n end_of-TInit = refl
items own ts fs n (more_of-TInit i is) = items own ts (with_own_item own (typed_init i) ts fs) _ is

items_raise : (own : ℕ) (ts : List PlainType) (fs : List Bool) (is : Vec TInit Global) → with_own_items own (init_row (inits.hidden-the_row-TInit-0 is)) ts fs ≡ fold (init_step own ts) fs is.items
items_raise own ts fs is = items own ts fs _ (inits.hidden-the_row-TInit-0 is) ∙ ap (fold (init_step own ts) fs) (items_hidden-the_row-TInit-0 is)

pub list_raises : (own : ℕ) (ts : List PlainType) (fs : List Bool) (i : TInit) (is : Vec TInit Global) → i ≡ init.List is →
    with_own_item own (typed_init i) ts fs ≡ fold (λ gs x. with_own_item own (typed_init x) ts gs) fs is.items
list_raises own ts fs i is h = ap (λ x. with_own_item own (typed_init x) ts fs) h ∙ items_raise own ts fs is

pub whole_list_raises : (own : ℕ) (ts : List PlainType) (fs : List Bool) (i : TInit) (is : Vec TInit Global) → i ≡ init.List is →
    with_own own (typed_init i) ts fs ≡ fold (λ gs x. with_own_item own (typed_init x) ts gs) fs is.items
whole_list_raises own ts fs i is h = ap (λ x. with_own own (typed_init x) ts fs) h ∙ items_raise own ts fs is

statements : (ts : List PlainType) (fs : List Bool) (n : _) (row : Row_of-TStmt n) → with_stmts (stmt_row row) ts fs ≡ fold (stmt_step ts) fs (items-the_row-TStmt n row)
statements ts fs n end_of-TStmt = refl
statements ts fs n (more_of-TStmt x xs) = statements ts (with_stmt (typed_stmt x) ts fs) _ xs

statements_raise : (ts : List PlainType) (fs : List Bool) (xs : Vec TStmt Global) → with_stmts (stmt_row (stmts.hidden-the_row-TStmt-0 xs)) ts fs ≡ fold (stmt_step ts) fs xs.items
statements_raise ts fs xs = statements ts fs _ (stmts.hidden-the_row-TStmt-0 xs) ∙ ap (fold (stmt_step ts) fs) (items_hidden-the_row-TStmt-0 xs)

pub block_raises : (ts : List PlainType) (fs : List Bool) (x : TStmt) (xs : Vec TStmt Global) → x ≡ stmt.Block xs →
    with_stmt (typed_stmt x) ts fs ≡ fold (λ gs y. with_stmt (typed_stmt y) ts gs) fs xs.items
block_raises ts fs x xs h = ap (stmt_step ts fs) h ∙ statements_raise ts fs xs

pub for_raises : (ts : List PlainType) (fs : List Bool) (x : TStmt) (xs : Vec TStmt Global) (test next : Option TExpr) (body : Box TStmt Global) → x ≡ stmt.For xs test next body →
    with_stmt (typed_stmt x) ts fs ≡ with_stmt (typed_stmt body.value) ts (with_option (typed_option next) ts (with_option (typed_option test) ts (fold (λ gs y. with_stmt (typed_stmt y) ts gs) fs xs.items)))
for_raises ts fs x xs test next body h =
    ap (stmt_step ts fs) h
    ∙ ap (λ gs. with_stmt (typed_stmt body.value) ts (with_option (typed_option next) ts (with_option (typed_option test) ts gs))) (statements_raise ts fs xs)
