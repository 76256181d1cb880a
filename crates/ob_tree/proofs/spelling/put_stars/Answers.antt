use Rattle.std.proofs.Common.{arith}
use Rattle.std.proofs.lemmas.List.{append_assoc}
use Rattle.ob_tree.proofs.Lists.{stars-more}
use Rattle.ob_tree.proofs.spelling.put_stars.Goals as goal

pub loop-preserved : goal.loop-preserved
loop-preserved c = grind (arith, stars-more, append_assoc)
