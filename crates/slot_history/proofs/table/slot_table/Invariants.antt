use Rattle.slot_history.proofs.Noted.{IsNoted}
use Rattle.slot_history.proofs.table.slot_table.Given as goal

abbrev pub invariant-loop-event : goal.invariant-loop-event
invariant-loop-event l = IsNoted l.shape l.events l.event-index l.changes.items
