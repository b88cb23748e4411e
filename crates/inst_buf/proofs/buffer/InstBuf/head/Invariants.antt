use Rattle.std.proofs.Common.{◌≡◌, [], take}
use Rattle.inst_buf.specs.Buffer.{entries}
use Rattle.inst_buf.proofs.buffer.InstBuf.head.Given as goal

abbrev pub invariant-loop-slot : goal.invariant-loop-slot
invariant-loop-slot l = entries (take l.slot-index l.slot-items) ≡ []
