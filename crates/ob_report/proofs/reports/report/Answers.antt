use Rattle.ob_report.proofs.Walks.{next_watcher}
use Rattle.ob_report.proofs.reports.report.Goals as goal

pub loop-number-preserved : goal.loop-number-preserved
loop-number-preserved g c =
    next_watcher _ _ _ _ c.args.watchers.now.items c.deref-watcher-items.result.now c.loop-number.number c.watcher-item.result c.loop-number.invariant c.deref-watcher-items.ensures.value c.loop-number-test.true c.watcher-item.is c.in_ok-put_section.ensures
