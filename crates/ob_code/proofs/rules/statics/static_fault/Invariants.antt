use Rattle.std.proofs.Common.{◌≡◌, ℕ, ◌<◌, ◌≤◌, take}
use Rattle.ob_code.specs.Layout.{static_blocks}
use Rattle.ob_code.specs.Rules.{IsStaticSound}
use Rattle.ob_model.specs.Limits.{most_static_bytes}
use Rattle.ob_code.proofs.rules.statics.static_fault.Given as goal

abbrev pub invariant-loop-i : goal.invariant-loop-i
invariant-loop-i l =
    record {
      blocks : l.blocks ≡ static_blocks (take l.i l.rows);
      few : l.blocks ≤ most_static_bytes;
      sound : (k : ℕ) → k < l.i → IsStaticSound l.rows k;
    }
