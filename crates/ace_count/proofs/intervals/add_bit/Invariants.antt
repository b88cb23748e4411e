use Rattle.std.proofs.Common.{◌-◌, ◌≤◌}
use Rattle.ace_count.specs.RunCounts.{HasClass}
use Rattle.ace_rules.specs.Tallies.{IsAdded}
use Rattle.ace_count.proofs.intervals.add_bit.Given as goal

abbrev pub invariant-loop-cycle : goal.invariant-loop-cycle
invariant-loop-cycle l =
    record { within : l.cycle ≤ l.cycles; added : IsAdded (HasClass l.a l.place.structure l.place.bit) l.cycle l.fn.row l.row }

abbrev pub decreases-loop-cycle : goal.decreases-loop-cycle
decreases-loop-cycle l = l.cycles - l.cycle
