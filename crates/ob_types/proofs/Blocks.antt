-- A block of statements, where the program keeps them in a vector.
use Rattle.std.proofs.Common.{◌≡◌, refl, ap, ◌∙◌}
use Rattle.std.specs.Prelude.{Vec, map}
use Rattle.std.specs.declared.alloc.Global.{Global}
use Rattle.ob_typed.specs.declared.statements.TStmt as stmt
use Rattle.ob_typed.specs.declared.statements.TStmt.{TStmt}
use Rattle.ob_typed.specs.declared.statements.TStmt.TheBlock as stmts
use Rattle.ob_typed.specs.declared.statements.TStmt.TheBlock.{Row_of-TStmt, end_of-TStmt, more_of-TStmt, items-the_row-TStmt, items_hidden-the_row-TStmt-0}
use Rattle.ob_typed.specs.Statements.{stmt_list}
use Rattle.ob_typed.specs.TypedTree.{TypedStmt, TypedStmts}
use Rattle.ob_typed.specs.TypedView.{stmt_row, typed_stmt}

row_statements : (n : _) (row : Row_of-TStmt n) → stmt_row row ≡ stmt_list (map typed_stmt (items-the_row-TStmt n row))
row_statements n end_of-TStmt = refl
row_statements n (more_of-TStmt s ss) = ap (TypedStmts.Stmt (typed_stmt s)) (row_statements _ ss)

pub block_of : (ss : Vec TStmt Global) → typed_stmt (stmt.Block ss) ≡ TypedStmt.Block (stmt_list (map typed_stmt ss.items))
block_of ss =
    ap TypedStmt.Block (row_statements _ (stmts.hidden-the_row-TStmt-0 ss) ∙ ap (λ xs. stmt_list (map typed_stmt xs)) (items_hidden-the_row-TStmt-0 ss))
