use Rattle.std.proofs.Common.{◌≡◌}
use Rattle.ob_objects_trials.proofs.tests.pairs.random_calls.Given as goal

abbrev pub invariant-loop-call : goal.invariant-loop-call
invariant-loop-call g l = record {
  entries : l.tree.entries ≡ l.sorted.entries;
  most : l.tree.most ≡ l.sorted.most;
}
