use Rattle.std.proofs.Common.{◌≤◌, ◌-◌}
use Rattle.bit_field.specs.Shapes.{bits_in}
use Rattle.ace_rules.specs.Tallies.{IsTally}
use Rattle.ace_count.specs.RunCounts.{HasClass}
use Rattle.ace_count.proofs.cycles.tally_by_cycles.Given as goal

abbrev pub invariant-loop-cycle : goal.invariant-loop-cycle
invariant-loop-cycle l = record {
  within : l.cycle ≤ l.cycles;
  tally : IsTally (HasClass l.a l.structure) (bits_in l.structure l.a.r.shape) l.cycle l.row;
}

abbrev pub decreases-loop-cycle : goal.decreases-loop-cycle
decreases-loop-cycle l = l.cycles - l.cycle
