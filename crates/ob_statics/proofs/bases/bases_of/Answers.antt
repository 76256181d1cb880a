use Rattle.std.proofs.lemmas.List.{get_or_default}
use Rattle.std.proofs.Common.{◌≡◌, ◌+◌, ap, arith, take, ◌∙◌}
use Rattle.ob_code.specs.declared.image.StaticRow.{StaticRow}
use Rattle.ob_code.specs.Layout.{static_blocks}
use Rattle.ob_code.specs.Rules.{no_static, static_at}
use Rattle.ob_words.specs.Words.{block}
use Rattle.ob_statics.proofs.Rows.{bases_push, blocks_small, blocks_step, length_push}
use Rattle.ob_statics.proofs.bases.bases_of.Goals as goal

pub overflow_add-base : goal.overflow_add-base
overflow_add-base c =
    let item : c.row-item.result ≡ static_at c.args.rows.now c.loop-row.row-index = c.row-item.is ∙ get_or_default c.args.rows.now c.loop-row.row-index c.row-item.result no_static (omega arith) in
    let more : c.block-base.result ≡ block (static_at c.args.rows.now c.loop-row.row-index).size = c.block-base.ensures.value ∙ ap (λ (r : StaticRow). block r.size) item in
    omega (arith, more, c.loop-row.invariant.base, (c.requires.each c.loop-row.row-index (omega arith)).size, blocks_small c.args.rows.now c.loop-row.row-index c.requires (omega arith))

pub loop-row-preserved : goal.loop-row-preserved
loop-row-preserved c =
    let item : c.row-item.result ≡ static_at c.args.rows.now c.loop-row.row-index = c.row-item.is ∙ get_or_default c.args.rows.now c.loop-row.row-index c.row-item.result no_static (omega arith) in
    let more : c.block-base.result ≡ block (static_at c.args.rows.now c.loop-row.row-index).size = c.block-base.ensures.value ∙ ap (λ (r : StaticRow). block r.size) item in
    let next : c.loop-row.base + c.block-base.result ≡ 4096 + static_blocks (take (c.loop-row.row-index + 1) c.args.rows.now) =
    omega (arith, more, c.loop-row.invariant.base, blocks_step c.args.rows.now c.loop-row.row-index (omega arith)) in
    record {
      base = next;
      count = length_push c.loop-row.bases.items c.push-in-loop-row.new.self.items _ _ c.loop-row.invariant.count c.in_ok-push-2.ensures.items;
      each = bases_push c.args.rows.now c.loop-row.bases.items c.push-in-loop-row.new.self.items c.loop-row.row-index (c.loop-row.base + c.block-base.result) c.loop-row.invariant.count c.loop-row.invariant.each next c.in_ok-push-2.ensures.items;
    }
