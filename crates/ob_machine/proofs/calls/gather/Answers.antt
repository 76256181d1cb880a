use Rattle.std.proofs.Common.{◌++◌, ◌∷◌, [], sym, ◌∙◌, arith}
use Rattle.ob_machine.proofs.Handed.{words_from_more}
use Rattle.ob_machine.proofs.calls.gather.Goals as goal

pub loop-i-preserved : goal.loop-i-preserved
loop-i-preserved c =
    let space = c.args.space.now.space in
    record {
      items =
          c.push_reserved.ensures.items
          ∙ (λ i. c.loop-i.invariant.items i ++ c.get_word.ensures i ∷ [])
          ∙ sym (words_from_more space c.args.from c.loop-i.i);
      size = omega (arith, c.push_reserved.ensures.len, c.loop-i.invariant.size);
      room = c.push_reserved.ensures.capacity ∙ c.loop-i.invariant.room;
    }
