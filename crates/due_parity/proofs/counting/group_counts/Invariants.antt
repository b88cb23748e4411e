use Rattle.due_parity.proofs.Passed.{IsPassed}
use Rattle.due_parity.proofs.counting.group_counts.Given as goal

abbrev pub invariant-loop-note : goal.invariant-loop-note
invariant-loop-note l = IsPassed l.a l.s l.group l.row l.note-index l.from l.counts
