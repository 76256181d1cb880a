use Rattle.std.proofs.Common.{◌≡◌, ◌+◌, ap, ◌∙◌}
use Rattle.ob_flat.specs.Memory.{Memory, with_field}
use Rattle.ob_frames.specs.Writes.{frame_opened}
use Rattle.ob_frames.proofs.StackWrites.{IsOpened, opened}
use Rattle.ob_frames.proofs.opening.open_frame.Goals as goal

written : (c : goal.After-put-2) → c.put-2.new.self ≡ frame_opened c.args.base c.args.length c.args.link c.args.caller c.args.flat.now
written c =
    c.put-2.ensures
    ∙ ap (λ (m : Memory). with_field m (c.args.base + 8) 8 c.args.caller)
    (c.put.ensures ∙ ap (λ (m : Memory). with_field m c.args.base 8 c.args.link) c.zero.ensures)

facts : (c : goal.After-put-2) → IsOpened c.args.base c.args.link c.args.caller c.args.flat.now c.put-2.new.self
facts c =
    rw (written c)
    (opened c.args.base c.args.length c.args.link c.args.caller c.args.flat.now c.law_fields.ensures.read c.law_fields.ensures.others c.law_zeros.ensures.others c.law_layout.ensures c.requires.stack c.requires.inside c.requires.words c.ranges.link.fits c.ranges.caller.fits)

pub returns-clause-link : goal.returns-clause-link
returns-clause-link c = (facts c).link

pub returns-clause-caller : goal.returns-clause-caller
returns-clause-caller c = (facts c).outer

pub returns-clause-below : goal.returns-clause-below
returns-clause-below c = (facts c).below

pub returns-clause-stack : goal.returns-clause-stack
returns-clause-stack c = (facts c).stack
