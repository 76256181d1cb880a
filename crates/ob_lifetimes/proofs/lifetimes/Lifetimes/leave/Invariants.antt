use Rattle.std.proofs.Common.{◌≡◌}
use Rattle.ob_lifetimes.proofs.Leaving.{without_rows}
use Rattle.ob_lifetimes.proofs.lifetimes.Lifetimes.leave.Given as goal

abbrev pub invariant-loop-local : goal.invariant-loop-local
invariant-loop-local l = l.self ≡ without_rows l.first l.row.locals l.local-index l.initial.self
