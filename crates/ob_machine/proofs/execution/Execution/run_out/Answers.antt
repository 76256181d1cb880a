use Rattle.std.proofs.Common.{◌≡◌, [], Err, ap, map, subst}
use Rattle.ob_machine.specs.Exchanges.{RunAnswers, devices}
use Rattle.ob_machine.proofs.Gone.{whole}
use Rattle.ob_machine.proofs.Finishing.{came_cut, came_ended, came_read, came_starved, came_write}
use Rattle.ob_machine.proofs.execution.Execution.run_out.Goals as goal

pub returns-in-Err-clause-comes : goal.returns-in-Err-clause-comes
returns-in-Err-clause-comes g c =
    let settings = c.args.self.now.space.settings in
    let cycle = g.M.Maker.cycle c.args.maker.now in
    let d = devices c.args.ports.now (g.S.Source.left c.args.source.now) (g.S.Source.faults c.args.source.now) (g.K.Sink.taken c.args.sink.now) (g.K.Sink.tally c.args.sink.now) (g.K.Sink.faults c.args.sink.now) (record { cycle = g.M.Maker.cycle c.args.maker.now; place = g.M.Maker.place c.args.maker.now; seen = map (λ w. record { capacity = g.W.Watcher.capacity w; kept = g.W.Watcher.kept w; total = g.W.Watcher.told w }) c.args.watchers.now.items }) in
    let d' = devices c.run.new.ports (g.S.Source.left c.run.new.source) (g.S.Source.faults c.run.new.source) (g.K.Sink.taken c.run.new.sink) (g.K.Sink.tally c.run.new.sink) (g.K.Sink.faults c.run.new.sink) (record { cycle = g.M.Maker.cycle c.run.new.maker; place = g.M.Maker.place c.run.new.maker; seen = map (λ w. record { capacity = g.W.Watcher.capacity w; kept = g.W.Watcher.kept w; total = g.W.Watcher.told w }) c.run.new.watchers.items }) in
    let unread : c.args.ports.now.input.bytes ≡ [] = ap (λ u. u.bytes) c.requires.input in
    came_cut (whole c.args.image.now settings cycle c.args.limit) c.args.self.now c.run.new.self d d' unread c.requires.output c.in-Ok.ending (g.K.Sink.taken c.send.new.out) (g.K.Sink.tally c.send.new.out) (g.K.Sink.faults c.send.new.out)
    c.in-Ok.ensures.answer c.in-Err.ensures.prefix c.in-Err.ensures.cause

pub returns-in_default-clause-comes : goal.returns-in_default-clause-comes
returns-in_default-clause-comes g c =
    let settings = c.args.self.now.space.settings in
    let cycle = g.M.Maker.cycle c.args.maker.now in
    let d = devices c.args.ports.now (g.S.Source.left c.args.source.now) (g.S.Source.faults c.args.source.now) (g.K.Sink.taken c.args.sink.now) (g.K.Sink.tally c.args.sink.now) (g.K.Sink.faults c.args.sink.now) (record { cycle = g.M.Maker.cycle c.args.maker.now; place = g.M.Maker.place c.args.maker.now; seen = map (λ w. record { capacity = g.W.Watcher.capacity w; kept = g.W.Watcher.kept w; total = g.W.Watcher.told w }) c.args.watchers.now.items }) in
    let d' = devices c.run.new.ports (g.S.Source.left c.run.new.source) (g.S.Source.faults c.run.new.source) (g.K.Sink.taken c.run.new.sink) (g.K.Sink.tally c.run.new.sink) (g.K.Sink.faults c.run.new.sink) (record { cycle = g.M.Maker.cycle c.run.new.maker; place = g.M.Maker.place c.run.new.maker; seen = map (λ w. record { capacity = g.W.Watcher.capacity w; kept = g.W.Watcher.kept w; total = g.W.Watcher.told w }) c.run.new.watchers.items }) in
    let unread : c.args.ports.now.input.bytes ≡ [] = ap (λ u. u.bytes) c.requires.input in
    came_ended (whole c.args.image.now settings cycle c.args.limit) c.args.self.now c.run.new.self d d' unread c.requires.output c.in-Ok.ending (g.K.Sink.taken c.send.new.out) (g.K.Sink.tally c.send.new.out) (g.K.Sink.faults c.send.new.out)
    c.in-Ok.ensures.answer c.in_default.ensures.bytes c.in_default.ensures.tallied c.in_default.ensures.quiet

pub returns-in-Err-Read-clause-comes : goal.returns-in-Err-Read-clause-comes
returns-in-Err-Read-clause-comes g c =
    let settings = c.args.self.now.space.settings in
    let cycle = g.M.Maker.cycle c.args.maker.now in
    let d = devices c.args.ports.now (g.S.Source.left c.args.source.now) (g.S.Source.faults c.args.source.now) (g.K.Sink.taken c.args.sink.now) (g.K.Sink.tally c.args.sink.now) (g.K.Sink.faults c.args.sink.now) (record { cycle = g.M.Maker.cycle c.args.maker.now; place = g.M.Maker.place c.args.maker.now; seen = map (λ w. record { capacity = g.W.Watcher.capacity w; kept = g.W.Watcher.kept w; total = g.W.Watcher.told w }) c.args.watchers.now.items }) in
    let d' = devices c.run.new.ports (g.S.Source.left c.run.new.source) (g.S.Source.faults c.run.new.source) (g.K.Sink.taken c.run.new.sink) (g.K.Sink.tally c.run.new.sink) (g.K.Sink.faults c.run.new.sink) (record { cycle = g.M.Maker.cycle c.run.new.maker; place = g.M.Maker.place c.run.new.maker; seen = map (λ w. record { capacity = g.W.Watcher.capacity w; kept = g.W.Watcher.kept w; total = g.W.Watcher.told w }) c.run.new.watchers.items }) in
    let unread : c.args.ports.now.input.bytes ≡ [] = ap (λ u. u.bytes) c.requires.input in
    came_read (whole c.args.image.now settings cycle c.args.limit) c.args.self.now c.run.new.self d d' unread c.requires.output
    (subst (λ x. RunAnswers (whole c.args.image.now settings cycle c.args.limit) c.args.self.now c.run.new.self d d' (Err x)) c.in-Err-Read.field-0-is c.in-Err-Read.ensures.answer)

pub returns-in-Err-Write-clause-comes : goal.returns-in-Err-Write-clause-comes
returns-in-Err-Write-clause-comes g c =
    let settings = c.args.self.now.space.settings in
    let cycle = g.M.Maker.cycle c.args.maker.now in
    let d = devices c.args.ports.now (g.S.Source.left c.args.source.now) (g.S.Source.faults c.args.source.now) (g.K.Sink.taken c.args.sink.now) (g.K.Sink.tally c.args.sink.now) (g.K.Sink.faults c.args.sink.now) (record { cycle = g.M.Maker.cycle c.args.maker.now; place = g.M.Maker.place c.args.maker.now; seen = map (λ w. record { capacity = g.W.Watcher.capacity w; kept = g.W.Watcher.kept w; total = g.W.Watcher.told w }) c.args.watchers.now.items }) in
    let d' = devices c.run.new.ports (g.S.Source.left c.run.new.source) (g.S.Source.faults c.run.new.source) (g.K.Sink.taken c.run.new.sink) (g.K.Sink.tally c.run.new.sink) (g.K.Sink.faults c.run.new.sink) (record { cycle = g.M.Maker.cycle c.run.new.maker; place = g.M.Maker.place c.run.new.maker; seen = map (λ w. record { capacity = g.W.Watcher.capacity w; kept = g.W.Watcher.kept w; total = g.W.Watcher.told w }) c.run.new.watchers.items }) in
    let unread : c.args.ports.now.input.bytes ≡ [] = ap (λ u. u.bytes) c.requires.input in
    came_write (whole c.args.image.now settings cycle c.args.limit) c.args.self.now c.run.new.self d d' unread c.requires.output
    (subst (λ x. RunAnswers (whole c.args.image.now settings cycle c.args.limit) c.args.self.now c.run.new.self d d' (Err x)) c.in-Err-Write.field-0-is c.in-Err-Write.ensures.answer)

pub returns-in-Err-Memory-clause-comes : goal.returns-in-Err-Memory-clause-comes
returns-in-Err-Memory-clause-comes g c =
    let settings = c.args.self.now.space.settings in
    let cycle = g.M.Maker.cycle c.args.maker.now in
    let d = devices c.args.ports.now (g.S.Source.left c.args.source.now) (g.S.Source.faults c.args.source.now) (g.K.Sink.taken c.args.sink.now) (g.K.Sink.tally c.args.sink.now) (g.K.Sink.faults c.args.sink.now) (record { cycle = g.M.Maker.cycle c.args.maker.now; place = g.M.Maker.place c.args.maker.now; seen = map (λ w. record { capacity = g.W.Watcher.capacity w; kept = g.W.Watcher.kept w; total = g.W.Watcher.told w }) c.args.watchers.now.items }) in
    let d' = devices c.run.new.ports (g.S.Source.left c.run.new.source) (g.S.Source.faults c.run.new.source) (g.K.Sink.taken c.run.new.sink) (g.K.Sink.tally c.run.new.sink) (g.K.Sink.faults c.run.new.sink) (record { cycle = g.M.Maker.cycle c.run.new.maker; place = g.M.Maker.place c.run.new.maker; seen = map (λ w. record { capacity = g.W.Watcher.capacity w; kept = g.W.Watcher.kept w; total = g.W.Watcher.told w }) c.run.new.watchers.items }) in
    let unread : c.args.ports.now.input.bytes ≡ [] = ap (λ u. u.bytes) c.requires.input in
    came_starved (whole c.args.image.now settings cycle c.args.limit) c.args.self.now c.run.new.self d d' unread c.requires.output
    (subst (λ x. RunAnswers (whole c.args.image.now settings cycle c.args.limit) c.args.self.now c.run.new.self d d' (Err x)) c.in-Err-Memory.field-0-is c.in-Err-Memory.ensures.answer)
