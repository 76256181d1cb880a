use Rattle.std.proofs.lemmas.List.{get_or_default}
use Rattle.std.proofs.Common.{◌≡◌, ◌+◌, List, ℕ, ap, arith, take, ◌∙◌}
use Rattle.std.specs.Prelude.{slice_index_or}
use Rattle.ob_code.specs.declared.image.StaticRow.{StaticRow}
use Rattle.ob_code.specs.Layout.{static_blocks}
use Rattle.ob_code.specs.Rules.{no_static, static_at}
use Rattle.ob_code.specs.Start.{with_bytes}
use Rattle.ob_statics.proofs.Putting.{given_inside, given_next, ranges_after}
use Rattle.ob_statics.proofs.bytes.lay_bytes.Goals as goal

pub put_bytes-requires-clause-inside : goal.put_bytes-requires-clause-inside
put_bytes-requires-clause-inside c =
    let given : c.bytes.result.now ≡ (static_at c.args.rows.now c.loop-i.i).given = c.bytes.ensures ∙ ap (λ (r : StaticRow). r.given) (get_or_default c.args.rows.now c.loop-i.i c.index-rows-i.result no_static (omega arith)) in
    rw given
    (given_inside c.args.rows.now c.loop-i.flat c.loop-i.i (slice_index_or c.args.bases.now c.loop-i.i 0) c.requires.sound (c.loop-i.invariant.ranges.statics ∙ c.requires.statics) (omega arith) (c.requires.bases.each c.loop-i.i (omega arith)))

pub loop-i-preserved : goal.loop-i-preserved
loop-i-preserved c =
    let given : c.bytes.result.now ≡ (static_at c.args.rows.now c.loop-i.i).given = c.bytes.ensures ∙ ap (λ (r : StaticRow). r.given) (get_or_default c.args.rows.now c.loop-i.i c.index-rows-i.result no_static (omega arith)) in
    let base : slice_index_or c.args.bases.now c.loop-i.i 0 ≡ 4096 + static_blocks (take c.loop-i.i c.args.rows.now) = c.requires.bases.each c.loop-i.i (omega arith) in
    let put : c.put_bytes.new.flat ≡ with_bytes c.loop-i.flat (4096 + static_blocks (take c.loop-i.i c.args.rows.now)) (static_at c.args.rows.now c.loop-i.i).given =
    c.put_bytes.ensures.memory
    ∙ ap (λ (bs : List ℕ). with_bytes c.loop-i.flat (slice_index_or c.args.bases.now c.loop-i.i 0) bs) given
    ∙ ap (λ (b : ℕ). with_bytes c.loop-i.flat b (static_at c.args.rows.now c.loop-i.i).given) base in
    record {
      memory = c.loop-i.invariant.memory ∙ given_next c.args.rows.now c.loop-i.i c.loop-i.flat c.put_bytes.new.flat (omega arith) put;
      ranges = ranges_after _ _ _ c.loop-i.invariant.ranges c.put_bytes.ensures.ranges;
    }
