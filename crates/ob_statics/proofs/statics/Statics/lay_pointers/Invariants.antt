use Rattle.std.proofs.Common.{◌≡◌, drop}
use Rattle.ob_code.specs.Start.{with_pointers}
use Rattle.ob_statics.specs.Held.{KeepsRanges}
use Rattle.ob_statics.proofs.statics.Statics.lay_pointers.Given as goal

abbrev pub invariant-loop-i : goal.invariant-loop-i
invariant-loop-i l = record {
  memory : with_pointers l.self.statics l.self.pointers l.fn.flat ≡ with_pointers l.self.statics (drop l.i l.self.pointers) l.flat;
  ranges : KeepsRanges l.fn.flat l.flat;
}
