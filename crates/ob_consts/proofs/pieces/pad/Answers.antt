use Rattle.std.proofs.Common.{arith}
use Rattle.std.proofs.lemmas.List.{append_assoc}
use Rattle.ob_consts.proofs.Placed.{zeros-more}
use Rattle.ob_consts.proofs.pieces.pad.Goals as goal

pub loop-preserved : goal.loop-preserved
loop-preserved c = grind (arith, zeros-more, append_assoc)
