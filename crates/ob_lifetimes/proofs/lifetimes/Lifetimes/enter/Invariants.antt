use Rattle.ob_lifetimes.proofs.Entering.{IsEntering}
use Rattle.ob_lifetimes.proofs.lifetimes.Lifetimes.enter.Given as goal

abbrev pub invariant-loop-local : goal.invariant-loop-local
invariant-loop-local l = IsEntering l.base l.first l.row l.local-index l.initial.self l.self
