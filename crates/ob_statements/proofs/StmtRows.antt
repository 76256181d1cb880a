-- Typed statements, where the program keeps their lists in vectors.
use Rattle.std.proofs.Common.{◌≡◌, Option, map, refl, ap, ◌∙◌}
use Rattle.std.specs.Prelude.{Vec, Box}
use Rattle.std.specs.declared.alloc.Global.{Global}
use Rattle.ob_typed.specs.declared.expressions.TExpr.{TExpr}
use Rattle.ob_typed.specs.declared.statements.TStmt as stmt
use Rattle.ob_typed.specs.declared.statements.TStmt.{TStmt}
use Rattle.ob_typed.specs.declared.statements.TStmt.TheBlock as block
use Rattle.ob_typed.specs.declared.statements.TStmt.TheBlock.{Row_of-TStmt, end_of-TStmt, more_of-TStmt, items-the_row-TStmt, items_hidden-the_row-TStmt-0}
use Rattle.ob_typed.specs.Statements.{stmt_list}
use Rattle.ob_typed.specs.TypedTree.{TypedStmt, TypedStmts}
use Rattle.ob_typed.specs.TypedView.{stmt_row, typed_option, typed_stmt}
use Rattle.ob_variables.specs.BodyView.{stmts_of}

row_stmts : (n : _) (row : Row_of-TStmt n) → stmt_row row ≡ stmt_list (map typed_stmt (items-the_row-TStmt n row))
row_stmts n end_of-TStmt = refl
row_stmts n (more_of-TStmt s ss) = ap (TypedStmts.Stmt (typed_stmt s)) (row_stmts _ ss)

stmts_in : (ss : Vec TStmt Global) → stmt_row (block.hidden-the_row-TStmt-0 ss) ≡ stmt_list (stmts_of ss.items)
stmts_in ss = row_stmts _ (block.hidden-the_row-TStmt-0 ss) ∙ ap (λ xs. stmt_list (map typed_stmt xs)) (items_hidden-the_row-TStmt-0 ss)

pub block_stmt : (ss : Vec TStmt Global) → typed_stmt (stmt.Block ss) ≡ TypedStmt.Block (stmt_list (stmts_of ss.items))
block_stmt ss = ap TypedStmt.Block (stmts_in ss)

pub for_stmt : (ss : Vec TStmt Global) (c n : Option TExpr) (s : Box TStmt Global) →
    typed_stmt (stmt.For ss c n s) ≡ TypedStmt.For (stmt_list (stmts_of ss.items)) (typed_option c) (typed_option n) (typed_stmt s.value)
for_stmt ss c n s = ap (λ xs. TypedStmt.For xs (typed_option c) (typed_option n) (typed_stmt s.value)) (stmts_in ss)
