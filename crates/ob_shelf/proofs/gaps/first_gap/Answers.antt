use Rattle.std.proofs.Common.{below_more, arith}
use Rattle.ob_shelf.specs.Blocks.{IsShorter}
use Rattle.ob_shelf.proofs.gaps.first_gap.Goals as goal

pub loop-index-preserved : goal.loop-index-preserved
loop-index-preserved c =
    let here : IsShorter c.args.heap c.args.blocks.now c.args.size c.loop-index.index = omega (arith, c.gap_start.ensures.value, c.gap_end.ensures, c.if-gap_start-size.false) in
    below_more (λ k. IsShorter c.args.heap c.args.blocks.now c.args.size k) c.loop-index.index c.loop-index.invariant here
