use Rattle.dead_class.specs.Readers.{IsKept}
use Rattle.dead_class.proofs.table.classify.Given as goal

abbrev pub invariant-loop-at : goal.invariant-loop-at
invariant-loop-at l = IsKept l.trace.entries l.registers.items l.bytes.entries l.classes.items l.at
