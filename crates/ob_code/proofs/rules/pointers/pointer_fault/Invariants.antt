use Rattle.std.proofs.Common.{ℕ, ◌<◌}
use Rattle.ob_code.specs.Rules.{IsPointerSound}
use Rattle.ob_code.proofs.rules.pointers.pointer_fault.Given as goal

abbrev pub invariant-loop-i : goal.invariant-loop-i
invariant-loop-i l = (k : ℕ) → k < l.i → IsPointerSound l.image.statics l.image.pointers k
