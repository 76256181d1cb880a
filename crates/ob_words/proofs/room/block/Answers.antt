use Rattle.std.proofs.Common.{◌≡◌, ◌+◌, ◌*◌, ◌/◌, subst, arith}
use Rattle.ob_words.specs.Words.{block, IsBlock}
use Rattle.ob_words.proofs.Blocks.{block_is}
use Rattle.ob_words.proofs.room.block.Goals as goal

pub returns-clause-meaning : goal.returns-clause-meaning
returns-clause-meaning c =
    let n = c.args.n in
    let is : block n ≡ (n / 16 + 1) * 16 = omega arith in
    subst (IsBlock n) is (block_is n)
