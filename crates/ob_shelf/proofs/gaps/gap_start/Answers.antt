use Rattle.std.proofs.Common.{◌-◌, arith}
use Rattle.ob_shelf.specs.Blocks.{no_block}
use Rattle.ob_shelf.proofs.gaps.gap_start.Goals as goal

pub overflow_add-result : goal.overflow_add-result
overflow_add-result c =
    let short = c.requires.short (c.args.index - 1) no_block (omega arith) in
    omega arith
