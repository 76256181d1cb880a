use Rattle.std.proofs.Common.{ℕ, ◌<◌, ◌≤◌, length}
use Rattle.ob_code.specs.Frames.{function_at}
use Rattle.ob_code.specs.Rules.{IsCodeSound, code_end}
use Rattle.ob_code.proofs.rules.code.code_fault.Given as goal

abbrev pub invariant-loop-i : goal.invariant-loop-i
invariant-loop-i l =
    record {
      is_function : l.f < length l.image.functions;
      after_entry : (function_at l.image.functions l.f).entry ≤ l.i;
      before_end : l.i ≤ code_end l.image l.f;
      sound : (k : ℕ) → k < l.i → IsCodeSound l.image k;
    }
