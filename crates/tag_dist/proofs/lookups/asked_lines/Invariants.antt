use Rattle.tag_dist.proofs.Noted.{IsAsked}
use Rattle.tag_dist.proofs.lookups.asked_lines.Given as goal

abbrev pub invariant-loop-event : goal.invariant-loop-event
invariant-loop-event l = IsAsked l.events l.event-index l.asked.entries
