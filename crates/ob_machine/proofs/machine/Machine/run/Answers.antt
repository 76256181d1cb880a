use Rattle.std.proofs.Common.{◌≡◌, ◌+◌, ◌*◌, ◌<◌, true, length, map, ap, ◌∙◌, subst}
use Rattle.ob_base.specs.Devices.{Reading, Writing}
use Rattle.ob_code.specs.Start.{flat_final, most_instructions}
use Rattle.ob_machine.specs.Finished.{ComesOut}
use Rattle.ob_machine.specs.Machines.{Hearing, IsFlushedBeforeReads, Runs}
use Rattle.ob_machine.proofs.Launched.{flushes, given, lacked, machine_after, read_cause, run_of, runs, unused_calls, unused_numbered, within_bound, write_cause}
use Rattle.ob_machine.proofs.machine.Machine.run.Goals as goal

pub run_out-ending-requires-clause-calls : goal.run_out-ending-requires-clause-calls
run_out-ending-requires-clause-calls g c =
    let fresh : c.self.inside.fresh ≡ true = ap (λ m. m.is_fresh) c.self.view_is ∙ c.requires.fresh in
    unused_calls c.self.inside.image c.self.inside.execution c.self.inside.ports (c.self.invariant.unused fresh)

pub run_out-ending-requires-clause-numbered : goal.run_out-ending-requires-clause-numbered
run_out-ending-requires-clause-numbered g c =
    let fresh : c.self.inside.fresh ≡ true = ap (λ m. m.is_fresh) c.self.view_is ∙ c.requires.fresh in
    unused_numbered c.self.inside.image c.self.inside.execution c.self.inside.ports c.args.steps c.self.invariant.verified (c.self.invariant.unused fresh) c.requires.steps

pub returns-clause-run : goal.returns-clause-run
returns-clause-run g c =
    let i = c.self.inside in
    let fresh : i.fresh ≡ true = ap (λ m. m.is_fresh) c.self.view_is ∙ c.requires.fresh in
    let code = c.as_slice.ensures ∙ ap (λ image. image.code) c.image-image.ensures.value in
    let limit : (length c.as_slice.result.now + 1) * (c.args.steps + 1) ≡ most_instructions i.image c.args.steps = ap (λ xs. (length xs + 1) * (c.args.steps + 1)) code in
    let r : Reading = record { left_before = g.S.Source.left c.args.input.now; left_now = g.S.Source.left c.run_out-ending.new.source; faults_before = g.S.Source.faults c.args.input.now; faults_now = g.S.Source.faults c.run_out-ending.new.source } in
    let w : Writing = record { taken_before = g.K.Sink.taken c.args.out.now; taken_now = g.K.Sink.taken c.run_out-ending.new.sink; tally_before = g.K.Sink.tally c.args.out.now; tally_now = g.K.Sink.tally c.run_out-ending.new.sink; faults_before = g.K.Sink.faults c.args.out.now; faults_now = g.K.Sink.faults c.run_out-ending.new.sink } in
    let h : Hearing = record { cycle = g.M.Maker.cycle c.args.maker.now; place_before = g.M.Maker.place c.args.maker.now; place_now = g.M.Maker.place c.run_out-ending.new.maker; seen_before = map (λ w. record { capacity = g.W.Watcher.capacity w; kept = g.W.Watcher.kept w; total = g.W.Watcher.told w }) c.args.watchers.now.items; seen_now = map (λ w. record { capacity = g.W.Watcher.capacity w; kept = g.W.Watcher.kept w; total = g.W.Watcher.told w }) c.run_out-ending.new.watchers.items } in
    let out = subst (λ image. ComesOut (run_of image i.execution.space.settings h.cycle ((length c.as_slice.result.now + 1) * (c.args.steps + 1))) (given i.execution c.args.steps) c.run_out-ending.new.self r w h c.run_out-ending.result) c.image-image.ensures.value c.run_out-ending.ensures.comes in
    let place : h.place_now < length h.cycle = subst (λ cycle. h.place_now < length cycle) c.run_out-ending.ensures.cycle c.stands.ensures in
    subst (λ m. Runs m (machine_after i.image c.run_out-ending.new.self) c.args.steps c.run_out-ending.result r w h) c.self.view_is
    (runs i.image i.execution c.run_out-ending.new.self i.ports i.fresh c.args.steps ((length c.as_slice.result.now + 1) * (c.args.steps + 1)) c.run_out-ending.result r w h (c.self.invariant.unused fresh) limit c.run_out-ending.ensures.rows place out)

pub returns-clause-flush : goal.returns-clause-flush
returns-clause-flush g c =
    let i = c.self.inside in
    let fresh : i.fresh ≡ true = ap (λ m. m.is_fresh) c.self.view_is ∙ c.requires.fresh in
    let code = c.as_slice.ensures ∙ ap (λ image. image.code) c.image-image.ensures.value in
    let limit : (length c.as_slice.result.now + 1) * (c.args.steps + 1) ≡ most_instructions i.image c.args.steps = ap (λ xs. (length xs + 1) * (c.args.steps + 1)) code in
    let r : Reading = record { left_before = g.S.Source.left c.args.input.now; left_now = g.S.Source.left c.run_out-ending.new.source; faults_before = g.S.Source.faults c.args.input.now; faults_now = g.S.Source.faults c.run_out-ending.new.source } in
    let w : Writing = record { taken_before = g.K.Sink.taken c.args.out.now; taken_now = g.K.Sink.taken c.run_out-ending.new.sink; tally_before = g.K.Sink.tally c.args.out.now; tally_now = g.K.Sink.tally c.run_out-ending.new.sink; faults_before = g.K.Sink.faults c.args.out.now; faults_now = g.K.Sink.faults c.run_out-ending.new.sink } in
    let h : Hearing = record { cycle = g.M.Maker.cycle c.args.maker.now; place_before = g.M.Maker.place c.args.maker.now; place_now = g.M.Maker.place c.run_out-ending.new.maker; seen_before = map (λ w. record { capacity = g.W.Watcher.capacity w; kept = g.W.Watcher.kept w; total = g.W.Watcher.told w }) c.args.watchers.now.items; seen_now = map (λ w. record { capacity = g.W.Watcher.capacity w; kept = g.W.Watcher.kept w; total = g.W.Watcher.told w }) c.run_out-ending.new.watchers.items } in
    let out = subst (λ image. ComesOut (run_of image i.execution.space.settings h.cycle ((length c.as_slice.result.now + 1) * (c.args.steps + 1))) (given i.execution c.args.steps) c.run_out-ending.new.self r w h c.run_out-ending.result) c.image-image.ensures.value c.run_out-ending.ensures.comes in
    λ written. subst (λ m. IsFlushedBeforeReads (λ input input_end. flat_final m.image m.settings h.cycle h.place_before input input_end c.args.steps) r w) c.self.view_is
    (flushes i.image i.execution c.run_out-ending.new.self i.ports c.args.steps ((length c.as_slice.result.now + 1) * (c.args.steps + 1)) c.run_out-ending.result r w h (c.self.invariant.unused fresh) limit out written)

pub returns-clause-read_fault : goal.returns-clause-read_fault
returns-clause-read_fault g c = λ is. read_cause _ _ c.args.steps c.run_out-ending.result _ _ _ (returns-clause-run g c) is

pub returns-clause-write_fault : goal.returns-clause-write_fault
returns-clause-write_fault g c = λ is. write_cause _ _ c.args.steps c.run_out-ending.result _ _ _ (returns-clause-run g c) is

pub returns-clause-memory : goal.returns-clause-memory
returns-clause-memory g c = λ is. lacked _ _ c.args.steps c.run_out-ending.result _ _ _ (returns-clause-run g c) is

pub returns-clause-bound : goal.returns-clause-bound
returns-clause-bound g c = within_bound _ _ c.args.steps c.run_out-ending.result _ _ _ (returns-clause-run g c)
