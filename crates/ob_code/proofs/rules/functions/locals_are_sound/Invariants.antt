use Rattle.std.proofs.Common.{ℕ, ◌<◌}
use Rattle.ob_code.specs.Rules.{IsLocalSound}
use Rattle.ob_code.proofs.rules.functions.locals_are_sound.Given as goal

abbrev pub invariant-loop-j : goal.invariant-loop-j
invariant-loop-j l = (k : ℕ) → k < l.j → IsLocalSound l.f k
