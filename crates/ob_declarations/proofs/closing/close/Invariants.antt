use Rattle.std.proofs.Common.{◌≡◌, length}
use Rattle.ob_tree.specs.ProgramView.{stmt_tree}
use Rattle.ob_declarations.specs.Statements.{closed}
use Rattle.ob_declarations.specs.View.{pending_stmts_of}
use Rattle.ob_declarations.proofs.closing.close.Given as goal

abbrev pub invariant-closing : goal.invariant-closing
invariant-closing l =
    closed l.ifs (stmt_tree l.stmt.value) (pending_stmts_of l.pending.items) ≡ closed l.ifs (stmt_tree l.fn.stmt.value) (pending_stmts_of l.fn.pending.items)

abbrev pub decreases-closing : goal.decreases-closing
decreases-closing l = length (pending_stmts_of l.pending.items)
