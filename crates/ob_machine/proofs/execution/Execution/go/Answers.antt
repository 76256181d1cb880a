use Rattle.std.proofs.Common.{◌≡◌, ◌-◌, [], Ok, Err, length, map, refl, sym, ap, ◌∙◌, subst, arith}
use Rattle.ob_machine.specs.Exchanges.{Advances, begun, devices}
use Rattle.ob_machine.proofs.Going.{Going, answers_at, counted_on, going_first, going_sent, going_spent, ready_on, rows_then}
use Rattle.ob_machine.proofs.Gone.{turn_cut, turn_end, turn_fault, turn_on}
use Rattle.ob_machine.specs.Executions.{does}
use Rattle.ob_machine.proofs.execution.Execution.go.Goals as goal

pub loop-n-init : goal.loop-n-init
loop-n-init g c =
    let settings = c.args.self.now.space.settings in
    let cycle = g.M.Maker.cycle c.args.maker.now in
    let d = devices c.args.ports.now (g.S.Source.left c.args.source.now) (g.S.Source.faults c.args.source.now) (g.K.Sink.taken c.args.sink.now) (g.K.Sink.tally c.args.sink.now) (g.K.Sink.faults c.args.sink.now) (record { cycle = g.M.Maker.cycle c.args.maker.now; place = g.M.Maker.place c.args.maker.now; seen = map (λ w. record { capacity = g.W.Watcher.capacity w; kept = g.W.Watcher.kept w; total = g.W.Watcher.told w }) c.args.watchers.now.items }) in
    record {
      going = going_first c.args.image.now settings cycle c.args.limit c.args.self.now d c.requires.end;
      ready = c.requires.ready;
      instructions = refl;
      cycle = refl;
      rows = record { statics = refl; pointers = refl; functions = refl; settings = refl };
      arguments = refl;
      room = c.requires.room;
      end = c.requires.end;
    }

pub returns-in-Ok-Some-clause-answer : goal.returns-in-Ok-Some-clause-answer
returns-in-Ok-Some-clause-answer g c =
    let settings = c.args.self.now.space.settings in
    let cycle = g.M.Maker.cycle c.args.maker.now in
    let d = devices c.args.ports.now (g.S.Source.left c.args.source.now) (g.S.Source.faults c.args.source.now) (g.K.Sink.taken c.args.sink.now) (g.K.Sink.tally c.args.sink.now) (g.K.Sink.faults c.args.sink.now) (record { cycle = g.M.Maker.cycle c.args.maker.now; place = g.M.Maker.place c.args.maker.now; seen = map (λ w. record { capacity = g.W.Watcher.capacity w; kept = g.W.Watcher.kept w; total = g.W.Watcher.told w }) c.args.watchers.now.items }) in
    let d' = devices c.loop-n.ports (g.S.Source.left c.loop-n.source) (g.S.Source.faults c.loop-n.source) (g.K.Sink.taken c.loop-n.sink) (g.K.Sink.tally c.loop-n.sink) (g.K.Sink.faults c.loop-n.sink) (record { cycle = g.M.Maker.cycle c.loop-n.maker; place = g.M.Maker.place c.loop-n.maker; seen = map (λ w. record { capacity = g.W.Watcher.capacity w; kept = g.W.Watcher.kept w; total = g.W.Watcher.told w }) c.loop-n.watchers.items }) in
    let d'' = devices c.step.new.ports (g.S.Source.left c.step.new.source) (g.S.Source.faults c.step.new.source) (g.K.Sink.taken c.step.new.sink) (g.K.Sink.tally c.step.new.sink) (g.K.Sink.faults c.step.new.sink) (record { cycle = g.M.Maker.cycle c.step.new.maker; place = g.M.Maker.place c.step.new.maker; seen = map (λ w. record { capacity = g.W.Watcher.capacity w; kept = g.W.Watcher.kept w; total = g.W.Watcher.told w }) c.step.new.watchers.items }) in
    turn_end c.args.image.now settings cycle c.args.limit c.loop-n.n c.args.self.now c.loop-n.self c.step.new.self d d' d'' c.in-Ok-Some.ending c.loop-n-test.true c.loop-n.invariant.going
    (subst (λ o. Advances (does c.args.image.now settings cycle) (begun c.loop-n.self) c.step.new.self d' d'' o) c.in-Ok-Some.field-0-is (answers_at c.args.image.now c.loop-n.self.space.settings settings (g.M.Maker.cycle c.loop-n.maker) cycle (begun c.loop-n.self) c.step.new.self d' d'' (Ok c.in-Ok-Some.field-0) c.loop-n.invariant.rows.settings c.loop-n.invariant.cycle c.in-Ok-Some.ensures.answer))

pub returns-in-Err-clause-answer : goal.returns-in-Err-clause-answer
returns-in-Err-clause-answer g c =
    let settings = c.args.self.now.space.settings in
    let cycle = g.M.Maker.cycle c.args.maker.now in
    let d = devices c.args.ports.now (g.S.Source.left c.args.source.now) (g.S.Source.faults c.args.source.now) (g.K.Sink.taken c.args.sink.now) (g.K.Sink.tally c.args.sink.now) (g.K.Sink.faults c.args.sink.now) (record { cycle = g.M.Maker.cycle c.args.maker.now; place = g.M.Maker.place c.args.maker.now; seen = map (λ w. record { capacity = g.W.Watcher.capacity w; kept = g.W.Watcher.kept w; total = g.W.Watcher.told w }) c.args.watchers.now.items }) in
    let d' = devices c.loop-n.ports (g.S.Source.left c.loop-n.source) (g.S.Source.faults c.loop-n.source) (g.K.Sink.taken c.loop-n.sink) (g.K.Sink.tally c.loop-n.sink) (g.K.Sink.faults c.loop-n.sink) (record { cycle = g.M.Maker.cycle c.loop-n.maker; place = g.M.Maker.place c.loop-n.maker; seen = map (λ w. record { capacity = g.W.Watcher.capacity w; kept = g.W.Watcher.kept w; total = g.W.Watcher.told w }) c.loop-n.watchers.items }) in
    let d'' = devices c.step.new.ports (g.S.Source.left c.step.new.source) (g.S.Source.faults c.step.new.source) (g.K.Sink.taken c.step.new.sink) (g.K.Sink.tally c.step.new.sink) (g.K.Sink.faults c.step.new.sink) (record { cycle = g.M.Maker.cycle c.step.new.maker; place = g.M.Maker.place c.step.new.maker; seen = map (λ w. record { capacity = g.W.Watcher.capacity w; kept = g.W.Watcher.kept w; total = g.W.Watcher.told w }) c.step.new.watchers.items }) in
    turn_fault c.args.image.now settings cycle c.args.limit c.loop-n.n c.args.self.now c.loop-n.self c.step.new.self d d' d'' c.in-Err.fault c.loop-n-test.true c.loop-n.invariant.rows.settings c.loop-n.invariant.going (answers_at c.args.image.now c.loop-n.self.space.settings settings (g.M.Maker.cycle c.loop-n.maker) cycle (begun c.loop-n.self) c.step.new.self d' d'' (Err c.in-Err.fault) c.loop-n.invariant.rows.settings c.loop-n.invariant.cycle c.in-Err.ensures.answer)

pub returns-clause-answer : goal.returns-clause-answer
returns-clause-answer g c =
    let settings = c.args.self.now.space.settings in
    let cycle = g.M.Maker.cycle c.args.maker.now in
    let d = devices c.args.ports.now (g.S.Source.left c.args.source.now) (g.S.Source.faults c.args.source.now) (g.K.Sink.taken c.args.sink.now) (g.K.Sink.tally c.args.sink.now) (g.K.Sink.faults c.args.sink.now) (record { cycle = g.M.Maker.cycle c.args.maker.now; place = g.M.Maker.place c.args.maker.now; seen = map (λ w. record { capacity = g.W.Watcher.capacity w; kept = g.W.Watcher.kept w; total = g.W.Watcher.told w }) c.args.watchers.now.items }) in
    let d' = devices c.loop-n.ports (g.S.Source.left c.loop-n.source) (g.S.Source.faults c.loop-n.source) (g.K.Sink.taken c.loop-n.sink) (g.K.Sink.tally c.loop-n.sink) (g.K.Sink.faults c.loop-n.sink) (record { cycle = g.M.Maker.cycle c.loop-n.maker; place = g.M.Maker.place c.loop-n.maker; seen = map (λ w. record { capacity = g.W.Watcher.capacity w; kept = g.W.Watcher.kept w; total = g.W.Watcher.told w }) c.loop-n.watchers.items }) in
    let none : c.loop-n.n ≡ 0 = omega arith in
    going_spent c.args.image.now settings cycle c.args.limit c.args.self.now c.loop-n.self d d' (subst (λ n. Going c.args.image.now settings cycle c.args.limit n c.args.self.now c.loop-n.self d d') none c.loop-n.invariant.going)

pub returns-in-Err-send-clause-answer : goal.returns-in-Err-send-clause-answer
returns-in-Err-send-clause-answer g c =
    let settings = c.args.self.now.space.settings in
    let cycle = g.M.Maker.cycle c.args.maker.now in
    let d = devices c.args.ports.now (g.S.Source.left c.args.source.now) (g.S.Source.faults c.args.source.now) (g.K.Sink.taken c.args.sink.now) (g.K.Sink.tally c.args.sink.now) (g.K.Sink.faults c.args.sink.now) (record { cycle = g.M.Maker.cycle c.args.maker.now; place = g.M.Maker.place c.args.maker.now; seen = map (λ w. record { capacity = g.W.Watcher.capacity w; kept = g.W.Watcher.kept w; total = g.W.Watcher.told w }) c.args.watchers.now.items }) in
    let d' = devices c.loop-n.ports (g.S.Source.left c.loop-n.source) (g.S.Source.faults c.loop-n.source) (g.K.Sink.taken c.loop-n.sink) (g.K.Sink.tally c.loop-n.sink) (g.K.Sink.faults c.loop-n.sink) (record { cycle = g.M.Maker.cycle c.loop-n.maker; place = g.M.Maker.place c.loop-n.maker; seen = map (λ w. record { capacity = g.W.Watcher.capacity w; kept = g.W.Watcher.kept w; total = g.W.Watcher.told w }) c.loop-n.watchers.items }) in
    let d'' = devices c.step.new.ports (g.S.Source.left c.step.new.source) (g.S.Source.faults c.step.new.source) (g.K.Sink.taken c.step.new.sink) (g.K.Sink.tally c.step.new.sink) (g.K.Sink.faults c.step.new.sink) (record { cycle = g.M.Maker.cycle c.step.new.maker; place = g.M.Maker.place c.step.new.maker; seen = map (λ w. record { capacity = g.W.Watcher.capacity w; kept = g.W.Watcher.kept w; total = g.W.Watcher.told w }) c.step.new.watchers.items }) in
    let sent = devices (record c.step.new.ports { output = c.send.new.self }) (g.S.Source.left c.step.new.source) (g.S.Source.faults c.step.new.source) (g.K.Sink.taken c.send.new.out) (g.K.Sink.tally c.send.new.out) (g.K.Sink.faults c.send.new.out) (record { cycle = g.M.Maker.cycle c.step.new.maker; place = g.M.Maker.place c.step.new.maker; seen = map (λ w. record { capacity = g.W.Watcher.capacity w; kept = g.W.Watcher.kept w; total = g.W.Watcher.told w }) c.step.new.watchers.items }) in
    turn_cut c.args.image.now settings cycle c.args.limit (c.loop-n.n - 1) c.args.self.now c.step.new.self d d'' sent
    (turn_on c.args.image.now settings cycle c.args.limit c.loop-n.n c.args.self.now c.loop-n.self c.step.new.self d d' d'' c.loop-n-test.true c.loop-n.invariant.going
    (subst (λ o. Advances (does c.args.image.now settings cycle) (begun c.loop-n.self) c.step.new.self d' d'' o) c.in-Ok-None.field-0-is (answers_at c.args.image.now c.loop-n.self.space.settings settings (g.M.Maker.cycle c.loop-n.maker) cycle (begun c.loop-n.self) c.step.new.self d' d'' (Ok c.in-Ok-None.field-0) c.loop-n.invariant.rows.settings c.loop-n.invariant.cycle c.in-Ok-None.ensures.answer)))
    c.in-Err-send.ensures.prefix c.in-Err-send.ensures.cause refl refl refl

pub loop-n-preserved : goal.loop-n-preserved
loop-n-preserved g c =
    let settings = c.args.self.now.space.settings in
    let cycle = g.M.Maker.cycle c.args.maker.now in
    let d = devices c.args.ports.now (g.S.Source.left c.args.source.now) (g.S.Source.faults c.args.source.now) (g.K.Sink.taken c.args.sink.now) (g.K.Sink.tally c.args.sink.now) (g.K.Sink.faults c.args.sink.now) (record { cycle = g.M.Maker.cycle c.args.maker.now; place = g.M.Maker.place c.args.maker.now; seen = map (λ w. record { capacity = g.W.Watcher.capacity w; kept = g.W.Watcher.kept w; total = g.W.Watcher.told w }) c.args.watchers.now.items }) in
    let d' = devices c.loop-n.ports (g.S.Source.left c.loop-n.source) (g.S.Source.faults c.loop-n.source) (g.K.Sink.taken c.loop-n.sink) (g.K.Sink.tally c.loop-n.sink) (g.K.Sink.faults c.loop-n.sink) (record { cycle = g.M.Maker.cycle c.loop-n.maker; place = g.M.Maker.place c.loop-n.maker; seen = map (λ w. record { capacity = g.W.Watcher.capacity w; kept = g.W.Watcher.kept w; total = g.W.Watcher.told w }) c.loop-n.watchers.items }) in
    let d'' = devices c.step.new.ports (g.S.Source.left c.step.new.source) (g.S.Source.faults c.step.new.source) (g.K.Sink.taken c.step.new.sink) (g.K.Sink.tally c.step.new.sink) (g.K.Sink.faults c.step.new.sink) (record { cycle = g.M.Maker.cycle c.step.new.maker; place = g.M.Maker.place c.step.new.maker; seen = map (λ w. record { capacity = g.W.Watcher.capacity w; kept = g.W.Watcher.kept w; total = g.W.Watcher.told w }) c.step.new.watchers.items }) in
    let done = subst (λ o. Advances (does c.args.image.now settings cycle) (begun c.loop-n.self) c.step.new.self d' d'' o) c.in-Ok-None.field-0-is (answers_at c.args.image.now c.loop-n.self.space.settings settings (g.M.Maker.cycle c.loop-n.maker) cycle (begun c.loop-n.self) c.step.new.self d' d'' (Ok c.in-Ok-None.field-0) c.loop-n.invariant.rows.settings c.loop-n.invariant.cycle c.in-Ok-None.ensures.answer) in
    record {
      going = turn_on c.args.image.now settings cycle c.args.limit c.loop-n.n c.args.self.now c.loop-n.self c.step.new.self d d' d'' c.loop-n-test.true c.loop-n.invariant.going done;
      ready = ready_on c.args.image.now settings cycle c.loop-n.self c.step.new.self d' d'' c.requires.verified c.loop-n.invariant.ready done c.step.ensures.rows;
      instructions = omega (arith, counted_on c.args.image.now settings cycle c.loop-n.self c.step.new.self d' d'' done, c.loop-n.invariant.instructions);
      cycle = c.step.ensures.cycle ∙ c.loop-n.invariant.cycle;
      rows = rows_then c.args.self.now.space c.loop-n.self.space c.step.new.self.space c.loop-n.invariant.rows c.step.ensures.rows;
      arguments = c.step.ensures.arguments ∙ c.loop-n.invariant.arguments;
      room = c.if-is_full.ensures;
      end = done.moves.knows_end;
    }

pub loop-n-preserved-in_default : goal.loop-n-preserved-in_default
loop-n-preserved-in_default g c =
    let settings = c.args.self.now.space.settings in
    let cycle = g.M.Maker.cycle c.args.maker.now in
    let d = devices c.args.ports.now (g.S.Source.left c.args.source.now) (g.S.Source.faults c.args.source.now) (g.K.Sink.taken c.args.sink.now) (g.K.Sink.tally c.args.sink.now) (g.K.Sink.faults c.args.sink.now) (record { cycle = g.M.Maker.cycle c.args.maker.now; place = g.M.Maker.place c.args.maker.now; seen = map (λ w. record { capacity = g.W.Watcher.capacity w; kept = g.W.Watcher.kept w; total = g.W.Watcher.told w }) c.args.watchers.now.items }) in
    let d' = devices c.loop-n.ports (g.S.Source.left c.loop-n.source) (g.S.Source.faults c.loop-n.source) (g.K.Sink.taken c.loop-n.sink) (g.K.Sink.tally c.loop-n.sink) (g.K.Sink.faults c.loop-n.sink) (record { cycle = g.M.Maker.cycle c.loop-n.maker; place = g.M.Maker.place c.loop-n.maker; seen = map (λ w. record { capacity = g.W.Watcher.capacity w; kept = g.W.Watcher.kept w; total = g.W.Watcher.told w }) c.loop-n.watchers.items }) in
    let d'' = devices c.step.new.ports (g.S.Source.left c.step.new.source) (g.S.Source.faults c.step.new.source) (g.K.Sink.taken c.step.new.sink) (g.K.Sink.tally c.step.new.sink) (g.K.Sink.faults c.step.new.sink) (record { cycle = g.M.Maker.cycle c.step.new.maker; place = g.M.Maker.place c.step.new.maker; seen = map (λ w. record { capacity = g.W.Watcher.capacity w; kept = g.W.Watcher.kept w; total = g.W.Watcher.told w }) c.step.new.watchers.items }) in
    let done = subst (λ o. Advances (does c.args.image.now settings cycle) (begun c.loop-n.self) c.step.new.self d' d'' o) c.in-Ok-None.field-0-is (answers_at c.args.image.now c.loop-n.self.space.settings settings (g.M.Maker.cycle c.loop-n.maker) cycle (begun c.loop-n.self) c.step.new.self d' d'' (Ok c.in-Ok-None.field-0) c.loop-n.invariant.rows.settings c.loop-n.invariant.cycle c.in-Ok-None.ensures.answer) in
    let taken = g.K.Sink.taken c.send.new.out in
    let tally = g.K.Sink.tally c.send.new.out in
    let faults = g.K.Sink.faults c.send.new.out in
    let emptied : c.send.new.self ≡ [] = c.in_default.ensures.emptied in
    record {
      going =
          subst (λ pending. Going c.args.image.now settings cycle c.args.limit (c.loop-n.n - 1) c.args.self.now c.step.new.self d (record d'' { pending = pending; taken = taken; tally = tally; write_faults = faults })) (sym emptied)
          (going_sent c.args.image.now settings cycle c.args.limit (c.loop-n.n - 1) c.args.self.now c.step.new.self d d'' taken tally faults
          (turn_on c.args.image.now settings cycle c.args.limit c.loop-n.n c.args.self.now c.loop-n.self c.step.new.self d d' d'' c.loop-n-test.true c.loop-n.invariant.going done)
          c.in_default.ensures.bytes c.in_default.ensures.tallied c.in_default.ensures.quiet);
      ready = ready_on c.args.image.now settings cycle c.loop-n.self c.step.new.self d' d'' c.requires.verified c.loop-n.invariant.ready done c.step.ensures.rows;
      instructions = omega (arith, counted_on c.args.image.now settings cycle c.loop-n.self c.step.new.self d' d'' done, c.loop-n.invariant.instructions);
      cycle = c.step.ensures.cycle ∙ c.loop-n.invariant.cycle;
      rows = rows_then c.args.self.now.space c.loop-n.self.space c.step.new.self.space c.loop-n.invariant.rows c.step.ensures.rows;
      arguments = c.step.ensures.arguments ∙ c.loop-n.invariant.arguments;
      room = let size : length c.send.new.self ≡ 0 = ap length emptied in omega arith;
      end = done.moves.knows_end;
    }
