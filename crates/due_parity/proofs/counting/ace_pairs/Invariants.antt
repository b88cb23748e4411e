use Rattle.std.proofs.Common.{◌≤◌, ◌-◌}
use Rattle.due_parity.specs.Stretches.{HasAcePairs}
use Rattle.due_parity.proofs.counting.ace_pairs.Given as goal

abbrev pub invariant-loop-t : goal.invariant-loop-t
invariant-loop-t l = HasAcePairs l.a l.s l.group l.from l.t l.pairs × (l.from ≤ l.t) × (l.t ≤ l.until)

abbrev pub decreases-loop-t : goal.decreases-loop-t
decreases-loop-t l = l.until - l.t
