use Rattle.ob_shelf.proofs.FirstGap.{gap_place}
use Rattle.ob_shelf.proofs.gaps.gap_for.Goals as goal

pub returns-clause-place : goal.returns-clause-place
returns-clause-place c = gap_place c.law_first_fit.ensures c.args.heap c.args.blocks.now c.args.size c.requires.laid c.first_gap.result c.first_gap.ensures
