use Rattle.std.proofs.Common.{sym, ◌∙◌}
use Rattle.ob_report.proofs.Walks.{last_event, next_event}
use Rattle.ob_report.proofs.reports.put_events.Goals as goal

pub returns-in-None : goal.returns-in-None
returns-in-None g c = last_event _ _ _ c.loop-i.i c.loop-i.invariant (sym c.event_at.ensures ∙ c.in-None.is)

pub loop-i-preserved : goal.loop-i-preserved
loop-i-preserved g c = next_event _ _ _ _ c.loop-i.i c.in-Some.e c.loop-i.invariant (sym c.event_at.ensures ∙ c.in-Some.is) c.in_ok-put_event-in-Some.ensures
