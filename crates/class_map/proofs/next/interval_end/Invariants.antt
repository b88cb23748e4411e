use Rattle.std.proofs.Common.{◌≡◌, ℕ, ◌-◌, ◌<◌, ◌≤◌}
use Rattle.class_map.specs.Maps.{IsUnAce}
use Rattle.class_map.proofs.next.interval_end.Given as goal

abbrev pub invariant-loop-end : goal.invariant-loop-end
invariant-loop-end l = record {
  after : l.from < l.end;
  within : l.end ≤ l.a.r.cycles;
  cycles : l.cycles ≡ l.a.r.cycles;
  same : (t : ℕ) → l.from ≤ t → t < l.end → IsUnAce l.a l.place t l.rule;
}

abbrev pub decreases-loop-end : goal.decreases-loop-end
decreases-loop-end l = l.cycles - l.end
