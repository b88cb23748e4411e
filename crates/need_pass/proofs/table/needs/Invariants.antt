use Rattle.need_pass.proofs.Passes.{IsPassed}
use Rattle.need_pass.proofs.table.needs.Given as goal

abbrev pub invariant-loop-at : goal.invariant-loop-at
invariant-loop-at l = IsPassed l.trace.entries l.registers.items l.bytes.entries l.at
