use Rattle.std.proofs.Common.{◌≡◌, ◌++◌, drop}
use Rattle.ob_report.specs.Reports.{event_lines}
use Rattle.ob_report.proofs.reports.put_events.Given as goal

abbrev pub invariant-loop-i : goal.invariant-loop-i
invariant-loop-i g l =
    l.text ++ event_lines (drop l.i ((goal.Watcher-dyn g (l.watcher.vtable, l.watcher.value)).kept l.watcher.value)) ≡
    l.fn.text ++ event_lines ((goal.Watcher-dyn g (l.watcher.vtable, l.watcher.value)).kept l.watcher.value)
