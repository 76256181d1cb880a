use Rattle.std.proofs.Common.{◌≡◌, ◌+◌, drop}
use Rattle.ob_code.specs.Frames.{with_words}
use Rattle.ob_machine.proofs.calls.hand_over.Given as goal

abbrev pub invariant-loop-w : goal.invariant-loop-w
invariant-loop-w l =
    record {
      place : l.i ≡ 2 + l.w-index;
      rest : with_words l.space.space l.i (drop l.w-index l.words) ≡ with_words l.fn.space.space 2 l.words;
      rows : l.space ≡ record l.fn.space { space = l.space.space };
      calls : l.space.space.calls ≡ l.fn.space.space.calls;
    }
