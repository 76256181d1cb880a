use Rattle.std.proofs.Common.{◌+◌, ◌<◌, ap, arith, refl, ◌∙◌}
use Rattle.std.specs.Prelude.{slice_index_or}
use Rattle.ob_flat.specs.Memory.{Memory, with_field}
use Rattle.ob_statics.proofs.Putting.{bytes_next, ranges_after}
use Rattle.ob_statics.proofs.bytes.put_bytes.Goals as goal

pub loop-i-preserved : goal.loop-i-preserved
loop-i-preserved c =
    let byte : slice_index_or c.args.bytes.now c.loop-i.i 0 < 256 = omega (arith, c.type_inv.bytes c.loop-i.i) in
    record {
      memory =
          c.put_byte.ensures.memory
          ∙ ap (λ (m : Memory). with_field m (c.args.address + c.loop-i.i) 1 (slice_index_or c.args.bytes.now c.loop-i.i 0)) c.loop-i.invariant.memory
          ∙ bytes_next c.args.flat.now c.args.address c.loop-i.i (slice_index_or c.args.bytes.now c.loop-i.i 0) c.args.bytes.now c.requires.laid_out c.requires.inside (omega arith) refl byte;
      ranges = ranges_after _ _ _ c.loop-i.invariant.ranges c.put_byte.ensures.ranges;
    }
