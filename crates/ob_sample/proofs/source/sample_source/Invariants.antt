use Rattle.std.proofs.Common.{◌≡◌, ◌++◌}
use Rattle.ob_sample.specs.Samples.{calls, functions, main_start}
use Rattle.ob_sample.proofs.source.sample_source.Given as goal

abbrev pub invariant-loop-k : goal.invariant-loop-k
invariant-loop-k l = l.source.items ≡ functions l.k

abbrev pub invariant-loop-k-2 : goal.invariant-loop-k-2
invariant-loop-k-2 l = l.source.items ≡ functions l.n ++ (main_start ++ calls l.k)
