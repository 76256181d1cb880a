use Rattle.ob_words.proofs.Machine.{high_number}
use Rattle.ob_words.proofs.conversion.signed_number.Goals as goal

pub returns-else-low-bits : goal.returns-else-low-bits
returns-else-low-bits c = high_number c.args.bits c.args.low c.requires.word c.ranges.low.fits c.if-low-bits.false
