use Rattle.tag_dist.proofs.Noted.{IsLast}
use Rattle.tag_dist.proofs.accesses.last_accesses.Given as goal

abbrev pub invariant-loop-i : goal.invariant-loop-i
invariant-loop-i l = IsLast l.trace.entries l.i l.last.entries
