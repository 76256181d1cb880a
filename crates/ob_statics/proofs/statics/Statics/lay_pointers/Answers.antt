use Rattle.std.proofs.Common.{◌≡◌, ◌<◌, List, ap, arith, length, ◌∙◌}
use Rattle.ob_code.specs.declared.image.PointerRow.{PointerRow}
use Rattle.ob_statics.proofs.Putting.{pointers_next, ranges_after}
use Rattle.ob_statics.proofs.statics.Statics.lay_pointers.Goals as goal

pub loop-i-preserved : goal.loop-i-preserved
loop-i-preserved c =
    let count : length c.as_slice-i-end.result.now ≡ length c.self.inside.pointers = ap (λ (ps : List PointerRow). length ps) c.as_slice-i-end.ensures in
    let known : c.loop-i.i < length c.args.self.now.pointers = rw (← c.self.view_is) (omega (arith, count)) in
    record {
      memory = c.loop-i.invariant.memory ∙ pointers_next c.args.self.now.statics c.args.self.now.pointers c.loop-i.i c.loop-i.flat c.lay_pointer.new.flat known c.lay_pointer.ensures.memory;
      ranges = ranges_after _ _ _ c.loop-i.invariant.ranges c.lay_pointer.ensures.ranges;
    }
