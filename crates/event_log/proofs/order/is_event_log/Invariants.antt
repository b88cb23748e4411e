use Rattle.event_log.proofs.Checked.{IsLogSoFar}
use Rattle.event_log.proofs.order.is_event_log.Given as goal

abbrev pub invariant-loop-event : goal.invariant-loop-event
invariant-loop-event l = IsLogSoFar l.shape l.events l.event-index l.least
