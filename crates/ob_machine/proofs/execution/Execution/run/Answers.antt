use Rattle.std.proofs.Common.{map, subst}
use Rattle.ob_machine.specs.Exchanges.{RunAnswers, devices}
use Rattle.ob_machine.proofs.Gone.{run_of, run_started, run_stopped}
use Rattle.ob_machine.proofs.execution.Execution.run.Goals as goal

pub returns-in-Some-clause-answer : goal.returns-in-Some-clause-answer
returns-in-Some-clause-answer g c =
    let settings = c.args.self.now.space.settings in
    let cycle = g.M.Maker.cycle c.args.maker.now in
    let d = devices c.args.ports.now (g.S.Source.left c.args.source.now) (g.S.Source.faults c.args.source.now) (g.K.Sink.taken c.args.sink.now) (g.K.Sink.tally c.args.sink.now) (g.K.Sink.faults c.args.sink.now) (record { cycle = g.M.Maker.cycle c.args.maker.now; place = g.M.Maker.place c.args.maker.now; seen = map (λ w. record { capacity = g.W.Watcher.capacity w; kept = g.W.Watcher.kept w; total = g.W.Watcher.told w }) c.args.watchers.now.items }) in
    run_stopped c.args.image.now settings cycle c.args.limit c.args.self.now c.start.new.self d c.in-Some.ending c.requires.end c.in-Some.ensures.state

pub returns-in-None-clause-answer : goal.returns-in-None-clause-answer
returns-in-None-clause-answer g c =
    let settings = c.args.self.now.space.settings in
    let cycle = g.M.Maker.cycle c.args.maker.now in
    let d = devices c.args.ports.now (g.S.Source.left c.args.source.now) (g.S.Source.faults c.args.source.now) (g.K.Sink.taken c.args.sink.now) (g.K.Sink.tally c.args.sink.now) (g.K.Sink.faults c.args.sink.now) (record { cycle = g.M.Maker.cycle c.args.maker.now; place = g.M.Maker.place c.args.maker.now; seen = map (λ w. record { capacity = g.W.Watcher.capacity w; kept = g.W.Watcher.kept w; total = g.W.Watcher.told w }) c.args.watchers.now.items }) in
    let d' = devices c.go.new.ports (g.S.Source.left c.go.new.source) (g.S.Source.faults c.go.new.source) (g.K.Sink.taken c.go.new.sink) (g.K.Sink.tally c.go.new.sink) (g.K.Sink.faults c.go.new.sink) (record { cycle = g.M.Maker.cycle c.go.new.maker; place = g.M.Maker.place c.go.new.maker; seen = map (λ w. record { capacity = g.W.Watcher.capacity w; kept = g.W.Watcher.kept w; total = g.W.Watcher.told w }) c.go.new.watchers.items }) in
    run_started c.args.image.now settings cycle c.args.limit c.args.self.now c.start.new.self c.go.new.self d d' c.go.result c.start.ensures.rows.settings c.in-None.ensures.state
    (subst (λ s. RunAnswers (run_of c.args.image.now s cycle c.args.limit) c.start.new.self c.go.new.self d d' c.go.result) c.start.ensures.rows.settings c.go.ensures.answer)
