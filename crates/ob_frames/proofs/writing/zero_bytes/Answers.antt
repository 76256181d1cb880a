use Rattle.ob_frames.proofs.Granules.{zeros_change}
use Rattle.ob_frames.proofs.writing.zero_bytes.Goals as goal

pub returns-clause-others : goal.returns-clause-others
returns-clause-others c =
    rw c.zero.ensures
    (zeros_change c.args.flat.now c.args.address c.args.length c.law_zeros.ensures.others c.law_layout.ensures c.requires.laid_out c.requires.inside).others

pub returns-clause-ranges : goal.returns-clause-ranges
returns-clause-ranges c =
    rw c.zero.ensures
    (zeros_change c.args.flat.now c.args.address c.args.length c.law_zeros.ensures.others c.law_layout.ensures c.requires.laid_out c.requires.inside).ranges
