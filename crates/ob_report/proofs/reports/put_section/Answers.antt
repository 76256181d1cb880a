use Rattle.ob_report.proofs.Walks.{one_section}
use Rattle.ob_report.proofs.reports.put_section.Goals as goal

pub returns : goal.returns
returns g c =
    one_section _ _ _ c.args.number _ _ _ c.in_ok-put_watcher_line.ensures c.total_of.ensures c.in_ok-put_events.ensures
