use Rattle.ob_words.proofs.Machine.{low_bits_is}
use Rattle.ob_words.proofs.conversion.low_bits.Goals as goal

pub returns : goal.returns
returns c = low_bits_is c.args.bits c.args.n c.requires c.ranges.n
