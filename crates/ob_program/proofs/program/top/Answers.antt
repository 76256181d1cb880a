use Rattle.std.proofs.Common.{◌<◌, string_bytes, length, subst, sym, ◌∙◌}
use Rattle.ob_commands.proofs.Coming.{not_read}
use Rattle.ob_program.proofs.Answering.{answered, answered_with, maker_inside, named}
use Rattle.ob_program.proofs.program.top.Goals as goal

-- src/program.rt:148:1
pub returns-then-runs : goal.returns-then-runs
returns-then-runs g c =
    let asks = c.in-Ok.ensures.job in
    let name = named string_bytes c.args.words.items c.in-Ok.job c.index.result.now c.as_str-name.result.now c.law_jobs.ensures.places asks.asked c.as_str-name.ensures.value c.index.ensures in
    let inside = subst (λ n. c.in-Ok.job.maker < n) (c.len.ensures ∙ c.args.makers.ok.0) (maker_inside c.in-Ok.job c.len.result _ asks (sym c.runs.ensures ∙ c.if-runs.true)) in
    answered_with _ c.args.makers.items c.len.result c.from.result c.index_mut-maker.result.now _ _ _ _ c.in-Ok.job c.perform-came.result c.deliver.result.code c.deliver.result.instructions c.as_str-name.result.now
    (c.len.ensures ∙ c.args.makers.ok.0) asks name c.from.ensures (subst (λ n. n < length c.args.makers.items) (sym c.from.ensures) inside) c.index_mut-maker.ensures.value c.perform-came.ensures c.deliver.ensures

-- src/program.rt:125:1
pub returns : goal.returns
returns g c =
    let asks = c.in-Ok.ensures.job in
    let name = named string_bytes c.args.words.items c.in-Ok.job c.index.result.now c.as_str-name.result.now c.law_jobs.ensures.places asks.asked c.as_str-name.ensures.value c.index.ensures in
    answered _ c.args.makers.items c.len.result _ _ _ _ c.in-Ok.job c.perform_alone-came.result c.deliver-else-runs.result.code c.deliver-else-runs.result.instructions c.as_str-name.result.now
    (c.len.ensures ∙ c.args.makers.ok.0) asks name (c.perform_alone-came.ensures _ (not_read _ _) _ _ _) c.deliver-else-runs.ensures
