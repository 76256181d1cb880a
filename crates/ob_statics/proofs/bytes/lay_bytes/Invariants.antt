use Rattle.std.proofs.Common.{◌≡◌, ◌+◌, drop, take}
use Rattle.ob_code.specs.Layout.{static_blocks}
use Rattle.ob_statics.specs.Contents.{with_given}
use Rattle.ob_statics.specs.Held.{KeepsRanges}
use Rattle.ob_statics.proofs.bytes.lay_bytes.Given as goal

abbrev pub invariant-loop-i : goal.invariant-loop-i
invariant-loop-i l = record {
  memory : with_given 4096 l.rows l.fn.flat ≡ with_given (4096 + static_blocks (take l.i l.rows)) (drop l.i l.rows) l.flat;
  ranges : KeepsRanges l.fn.flat l.flat;
}
