use Rattle.std.proofs.Common.{◌≡◌, ◌-◌, ◌≤◌}
use Rattle.class_map.specs.Searches.{IsAce}
use Rattle.class_map.proofs.next.line_in_bit.Given as goal

abbrev pub invariant-loop-cycle : goal.invariant-loop-cycle
invariant-loop-cycle l = record {
  after : l.from ≤ l.cycle;
  cycles : l.cycles ≡ l.a.r.cycles;
  ace : IsAce l.a l.place l.from l.cycle;
}

abbrev pub decreases-loop-cycle : goal.decreases-loop-cycle
decreases-loop-cycle l = l.cycles - l.cycle
