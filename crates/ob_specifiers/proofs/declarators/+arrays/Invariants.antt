use Rattle.std.proofs.Common.{length}
use Rattle.ob_specifiers.proofs.declarators.+arrays.Given as goal

abbrev pub decreases-arrays : goal.decreases-arrays
decreases-arrays l = length l.lengths.now
