use Rattle.std.proofs.Common.{◌*◌}
use Rattle.due_parity.specs.Due.{CountsBits}
use Rattle.due_parity.specs.Stretches.{width}
use Rattle.due_parity.proofs.counting.due.Given as goal

abbrev pub invariant-loop-group : goal.invariant-loop-group
invariant-loop-group l = CountsBits l.a l.s (width l.s * l.group) l.counts
