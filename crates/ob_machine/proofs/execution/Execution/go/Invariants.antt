use Rattle.std.proofs.Common.{◌≡◌, ◌+◌, ◌<◌, length, map, vec_capacity}
use Rattle.ob_machine.specs.Effects.{IsReady}
use Rattle.ob_machine.specs.Exchanges.{KnowsEnd, devices}
use Rattle.ob_machine.specs.Executions.{SameRows}
use Rattle.ob_machine.proofs.Going.{Going}
use Rattle.ob_machine.proofs.execution.Execution.go.Given as goal

abbrev pub invariant-loop-n : goal.invariant-loop-n
invariant-loop-n g l =
    record {
      going : Going l.image l.fn.self.space.settings (g.M.Maker.cycle l.fn.maker) l.limit l.n l.fn.self l.self (devices l.fn.ports (g.S.Source.left l.fn.source) (g.S.Source.faults l.fn.source) (g.K.Sink.taken l.fn.sink) (g.K.Sink.tally l.fn.sink) (g.K.Sink.faults l.fn.sink) (record { cycle = g.M.Maker.cycle l.fn.maker; place = g.M.Maker.place l.fn.maker; seen = map (λ w. record { capacity = g.W.Watcher.capacity w; kept = g.W.Watcher.kept w; total = g.W.Watcher.told w }) l.fn.watchers.items })) (devices l.ports (g.S.Source.left l.source) (g.S.Source.faults l.source) (g.K.Sink.taken l.sink) (g.K.Sink.tally l.sink) (g.K.Sink.faults l.sink) (record { cycle = g.M.Maker.cycle l.maker; place = g.M.Maker.place l.maker; seen = map (λ w. record { capacity = g.W.Watcher.capacity w; kept = g.W.Watcher.kept w; total = g.W.Watcher.told w }) l.watchers.items }));
      ready : IsReady l.image l.self;
      instructions : l.self.instructions + l.n ≡ l.fn.self.instructions + l.limit;
      cycle : g.M.Maker.cycle l.maker ≡ g.M.Maker.cycle l.fn.maker;
      rows : SameRows l.fn.self.space l.self.space;
      arguments : vec_capacity l.ports.arguments ≡ vec_capacity l.fn.ports.arguments;
      room : length l.ports.output < 4096;
      end : KnowsEnd l.ports.input (g.S.Source.left l.source);
    }

abbrev pub decreases-loop-n : goal.decreases-loop-n
decreases-loop-n g l = l.n
