use Rattle.std.proofs.Common.{◌≡◌, false, sym, subst}
use Rattle.std.specs.Prelude.{IfOk}
use Rattle.ob_tree.specs.ProgramView.{stmt_tree}
use Rattle.ob_declarations.specs.Statements.{is_else}
use Rattle.ob_declarations.specs.Shifts.{Leads}
use Rattle.ob_declarations.specs.View.{pending_stmts_of, mark}
use Rattle.ob_declarations.proofs.Turns.{other_comes}
use Rattle.ob_declarations.proofs.endings.done.Goals as goal

pub returns : goal.returns
returns c =
    let h : is_else c.args.kind.now ≡ false = cc in
    let e = other_comes (mark c.args.place) c.args.kind.now (stmt_tree c.args.stmt.value) (stmt_tree c.in_ok-stmt.stmt.value) (pending_stmts_of c.args.pending.items) (pending_stmts_of c.in_ok-stmt.pending.items) h c.in_ok-stmt.ensures in
    subst (λ next. IfOk c.after_whole.result (λ s. Leads (mark c.args.place) c.args.kind.now s next)) (sym e) c.after_whole.ensures
