use Rattle.ob_frames.proofs.Granules.{store_changes}
use Rattle.ob_frames.proofs.writing.write_granule.Goals as goal

pub returns-clause-others : goal.returns-clause-others
returns-clause-others c =
    rw c.write_memory.ensures
    (store_changes c.args.kind c.args.flat.now c.args.address c.args.w c.law_fields.ensures.others c.law_zeros.ensures.others c.law_layout.ensures c.requires.laid_out c.requires.granule c.requires.aligned).others

pub returns-clause-ranges : goal.returns-clause-ranges
returns-clause-ranges c =
    rw c.write_memory.ensures
    (store_changes c.args.kind c.args.flat.now c.args.address c.args.w c.law_fields.ensures.others c.law_zeros.ensures.others c.law_layout.ensures c.requires.laid_out c.requires.granule c.requires.aligned).ranges
