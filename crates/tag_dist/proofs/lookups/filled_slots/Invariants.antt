use Rattle.tag_dist.proofs.Noted.{IsFilled}
use Rattle.tag_dist.proofs.lookups.filled_slots.Given as goal

abbrev pub invariant-loop-event : goal.invariant-loop-event
invariant-loop-event l = IsFilled l.shape l.events l.event-index l.filled.items
