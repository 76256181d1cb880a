use Rattle.std.proofs.Common.{length}
use Rattle.ob_image.proofs.numbers.+exactly.Given as goal

abbrev pub decreases-exactly : goal.decreases-exactly
decreases-exactly l = length l.text.now
