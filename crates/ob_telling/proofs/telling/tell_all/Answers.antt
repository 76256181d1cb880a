use Rattle.std.proofs.Common.{rules}
use Rattle.ob_watch.specs.Watching.{after_event}
use Rattle.ob_telling.proofs.Steps.{next_changed}
use Rattle.ob_telling.proofs.telling.tell_all.Goals as goal

pub loop-i-preserved : goal.loop-i-preserved
loop-i-preserved g c =
    record {
      told =
          next_changed
          (λ w. record { capacity = g.W.Watcher.capacity w; kept = g.W.Watcher.kept w; total = g.W.Watcher.told w })
          (λ w. after_event w c.args.e) c.loop-i.watchers.items c.loop-i.i c.index_mut.result.now c.tell_one.new.watcher _ (search rules) c.index_mut.ensures.value c.tell_one.ensures c.loop-i.invariant.told;
      length = search rules;
    }
