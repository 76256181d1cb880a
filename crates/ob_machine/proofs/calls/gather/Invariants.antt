use Rattle.std.proofs.Common.{◌≡◌, vec_len, vec_capacity}
use Rattle.ob_code.specs.Frames.{words_from}
use Rattle.ob_machine.proofs.calls.gather.Given as goal

abbrev pub invariant-loop-i : goal.invariant-loop-i
invariant-loop-i l =
    record {
      items : l.words.items ≡ words_from l.space.space l.from l.i;
      size : vec_len l.words ≡ l.i;
      room : vec_capacity l.words ≡ vec_capacity l.fn.words;
    }
