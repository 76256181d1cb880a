use Rattle.std.proofs.Common.{◌≡◌}
use Rattle.ob_objects_trials.proofs.tests.pairs.sorted_calls.Given as goal

abbrev pub invariant-loop-k : goal.invariant-loop-k
invariant-loop-k g l = record {
  entries : l.tree.entries ≡ l.sorted.entries;
  most : l.tree.most ≡ l.sorted.most;
}

abbrev pub invariant-loop-n : goal.invariant-loop-n
invariant-loop-n g l = record {
  entries : l.tree.entries ≡ l.sorted.entries;
  most : l.tree.most ≡ l.sorted.most;
}
