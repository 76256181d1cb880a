use Rattle.std.proofs.Common.{◌∙◌, arith}
use Rattle.ob_shelf.proofs.Order.{no_index}
use Rattle.ob_shelf.proofs.gaps.index_of.Goals as goal
use Rattle.ob_shelf.proofs.gaps.index_of.Goals.{else-count-ne0-via-then-count-ne0+else-from-place, else-count-ne0-via-else-count-ne0}

pub returns-else-count-ne0 : goal.returns-else-count-ne0
returns-else-count-ne0 c =
    no_index c.args.blocks.now c.args.place c.count_up_to-count.result c.requires.in_order c.requires.granular c.count_up_to-count.ensures
    (λ some same.
    elim c.else-count-ne0.branch [
      | else-count-ne0-via-then-count-ne0+else-from-place w ↦ w.if-from-place.false (w.from.ensures ∙ same)
      | else-count-ne0-via-else-count-ne0 w ↦ omega arith
    ])
