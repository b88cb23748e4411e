use Rattle.ace_count.specs.RunCounts.{HasClass}
use Rattle.ace_rules.specs.Tallies.{IsTally}
use Rattle.ace_count.proofs.intervals.tally_by_intervals.Given as goal

abbrev pub invariant-loop-bit : goal.invariant-loop-bit
invariant-loop-bit l = IsTally (HasClass l.a l.structure) l.bit l.a.r.cycles l.row
