use Rattle.line_life.proofs.Noted.{IsNoted}
use Rattle.line_life.proofs.life.data_life.Given as goal

abbrev pub invariant-loop-event : goal.invariant-loop-event
invariant-loop-event l = IsNoted l.shape l.events l.event-index l.reads.items l.changes.items
