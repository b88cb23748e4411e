use Rattle.std.proofs.Common.{ℕ, ◌-◌, ◌<◌, ◌≤◌}
use Rattle.class_map.specs.Maps.{IsUnAce}
use Rattle.class_map.proofs.judge.is_right.Given as goal

abbrev pub invariant-loop-cycle : goal.invariant-loop-cycle
invariant-loop-cycle l = record {
  from : l.line.from ≤ l.cycle;
  right : (t : ℕ) → l.line.from ≤ t → t < l.cycle → IsUnAce l.a l.line.place t l.line.rule;
}

abbrev pub decreases-loop-cycle : goal.decreases-loop-cycle
decreases-loop-cycle l = l.line.to - l.cycle
