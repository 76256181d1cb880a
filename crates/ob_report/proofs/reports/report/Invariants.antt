use Rattle.std.proofs.Common.{◌≡◌, ◌++◌, drop, map}
use Rattle.ob_report.specs.Reports.{report_text, sections}
use Rattle.ob_report.proofs.reports.report.Given as goal

abbrev pub invariant-loop-number : goal.invariant-loop-number
invariant-loop-number g l =
    l.text ++ sections l.number (drop l.number (map (λ w. record { total = (goal.Watcher-dyn g (w.vtable, w.value)).told w.value; kept = (goal.Watcher-dyn g (w.vtable, w.value)).kept w.value }) l.watchers.items)) ≡
    report_text (map (λ w. record { total = (goal.Watcher-dyn g (w.vtable, w.value)).told w.value; kept = (goal.Watcher-dyn g (w.vtable, w.value)).kept w.value }) l.watchers.items)
