use Rattle.std.proofs.Common.{◌≡◌}
use Rattle.ob_space.proofs.Laying.{made_first}
use Rattle.ob_space.proofs.statics.add_statics.Given as goal

abbrev pub invariant-loop-i : goal.invariant-loop-i
invariant-loop-i l = l.living ≡ made_first l.fn.living l.frames.statics l.i
