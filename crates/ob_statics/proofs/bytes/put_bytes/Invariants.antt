use Rattle.std.proofs.Common.{◌≡◌, take}
use Rattle.ob_code.specs.Start.{with_bytes}
use Rattle.ob_statics.specs.Held.{KeepsRanges}
use Rattle.ob_statics.proofs.bytes.put_bytes.Given as goal

abbrev pub invariant-loop-i : goal.invariant-loop-i
invariant-loop-i l = record {
  memory : l.flat ≡ with_bytes l.fn.flat l.address (take l.i l.bytes);
  ranges : KeepsRanges l.fn.flat l.flat;
}
