use Rattle.ace_rules.specs.Walks.{IsLastClock}
use Rattle.ace_rules.proofs.walk.last_clock.Given as goal

abbrev pub invariant-loop-i : goal.invariant-loop-i
invariant-loop-i l = IsLastClock l.trace.entries l.i l.last
