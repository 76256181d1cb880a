use Rattle.std.proofs.Common.{ℕ, ◌<◌}
use Rattle.ob_code.specs.Rules.{IsNameRowSound}
use Rattle.ob_code.proofs.rules.names.name_fault.Given as goal

abbrev pub invariant-loop-i : goal.invariant-loop-i
invariant-loop-i l = (k : ℕ) → k < l.i → IsNameRowSound l.image k
