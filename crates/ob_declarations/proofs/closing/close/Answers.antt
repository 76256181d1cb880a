use Rattle.std.proofs.Common.{◌≡◌, true, false, ◌∙◌}
use Rattle.ob_tree.specs.ProgramView.{stmt_tree}
use Rattle.ob_declarations.specs.Statements.{closes}
use Rattle.ob_declarations.specs.View.{pending_stmts_of}
use Rattle.ob_declarations.proofs.Turns.{turn, stops}
use Rattle.ob_declarations.proofs.closing.close.Goals as goal

pub closing-preserved : goal.closing-preserved
closing-preserved c =
    let h : true ≡ closes c.args.ifs (pending_stmts_of c.closing.pending.items) = cc in
    let t = turn c.args.ifs (stmt_tree c.closing.stmt.value) _ (pending_stmts_of c.closing.pending.items) _ h c.in_ok-stmt.ensures in
    t.same ∙ c.closing.invariant

pub closing-smaller : goal.closing-smaller
closing-smaller c =
    let h : true ≡ closes c.args.ifs (pending_stmts_of c.closing.pending.items) = cc in
    let t = turn c.args.ifs (stmt_tree c.closing.stmt.value) _ (pending_stmts_of c.closing.pending.items) _ h c.in_ok-stmt.ensures in
    t.fewer

pub returns : goal.returns
returns c =
    let h : false ≡ closes c.args.ifs (pending_stmts_of c.closing.pending.items) = cc in
    stops c.args.ifs (stmt_tree c.closing.stmt.value) (pending_stmts_of c.closing.pending.items) h ∙ c.closing.invariant
