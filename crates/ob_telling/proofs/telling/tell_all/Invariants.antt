use Rattle.std.proofs.Common.{◌≡◌, ◌++◌, drop, length, map, take}
use Rattle.ob_watch.specs.Watching.{after_event}
use Rattle.ob_telling.proofs.telling.tell_all.Given as goal

-- telling the rest gives what telling all gives, and there are as many watchers as before
abbrev pub invariant-loop-i : goal.invariant-loop-i
invariant-loop-i g l =
    record {
      told :
          take l.i (map (λ w. record { capacity = g.W.Watcher.capacity w; kept = g.W.Watcher.kept w; total = g.W.Watcher.told w }) l.watchers.items)
          ++ map (λ w. after_event w l.e) (drop l.i (map (λ w. record { capacity = g.W.Watcher.capacity w; kept = g.W.Watcher.kept w; total = g.W.Watcher.told w }) l.watchers.items))
          ≡ map (λ w. after_event w l.e) (map (λ w. record { capacity = g.W.Watcher.capacity w; kept = g.W.Watcher.kept w; total = g.W.Watcher.told w }) l.initial.watchers.items);
      length : length l.watchers.items ≡ length l.initial.watchers.items;
    }
