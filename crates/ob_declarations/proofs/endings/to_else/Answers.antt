use Rattle.std.proofs.Common.{sym, subst}
use Rattle.std.specs.Prelude.{IfOk}
use Rattle.ob_tree.specs.ProgramView.{stmt_tree}
use Rattle.ob_declarations.specs.Shifts.{Reaches}
use Rattle.ob_declarations.specs.View.{pending_stmts_of}
use Rattle.ob_declarations.proofs.Turns.{to_else_closed}
use Rattle.ob_declarations.proofs.endings.to_else.Goals as goal

pub returns : goal.returns
returns c =
    let e = to_else_closed (stmt_tree c.args.stmt.value) (stmt_tree c.in_ok-then.then.value) (pending_stmts_of c.args.pending.items) (pending_stmts_of c.in_ok-then.pending.items) c.in_ok-then.ensures in
    subst (λ next. IfOk c.else_behind.result (λ o. Reaches o next)) (sym e) c.else_behind.ensures
