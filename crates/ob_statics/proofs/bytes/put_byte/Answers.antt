use Rattle.ob_statics.proofs.Putting.{put_keeps}
use Rattle.ob_statics.proofs.bytes.put_byte.Goals as goal

pub returns-clause-ranges : goal.returns-clause-ranges
returns-clause-ranges c = rw c.put.ensures (put_keeps c.args.flat.now c.args.address c.from.result c.law_layout.ensures c.requires.laid_out c.requires.inside)
