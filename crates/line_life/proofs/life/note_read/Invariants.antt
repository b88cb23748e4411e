use Rattle.line_life.proofs.Noted.{IsReadSoFar}
use Rattle.line_life.proofs.life.note_read.Given as goal

abbrev pub invariant-loop-byte : goal.invariant-loop-byte
invariant-loop-byte l = IsReadSoFar l.slot l.byte l.event l.initial.reads l.reads
