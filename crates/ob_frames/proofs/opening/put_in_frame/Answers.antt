use Rattle.ob_frames.proofs.StackWrites.{stack_put, writes_word}
use Rattle.ob_frames.proofs.opening.put_in_frame.Goals as goal

pub returns-clause-stack : goal.returns-clause-stack
returns-clause-stack c = rw c.put.ensures (stack_put c.args.flat.now c.args.address c.args.w c.law_layout.ensures c.requires.stack c.requires.inside)

pub returns-clause-word : goal.returns-clause-word
returns-clause-word c =
    rw c.put.ensures
    (writes_word c.args.flat.now c.args.address c.args.w c.law_fields.ensures.read c.law_fields.ensures.others c.requires.stack c.requires.inside c.ranges.w.fits)
