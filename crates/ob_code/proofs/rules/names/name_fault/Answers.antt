use Rattle.std.proofs.Common.{below_more, refl}
use Rattle.ob_code.proofs.rules.names.name_fault.Goals as goal

pub loop-i-preserved : goal.loop-i-preserved
loop-i-preserved c = below_more _ _ c.loop-i.invariant (c.if-not-name_row_is_sound.ensures.0 refl)
