use Rattle.std.proofs.Common.{◌≡◌, ◌≤◌, length, take}
use Rattle.inst_buf.specs.Buffer.{entries}
use Rattle.inst_buf.proofs.buffer.InstBuf.len.Given as goal

abbrev pub invariant-loop-slot : goal.invariant-loop-slot
invariant-loop-slot l = (l.count ≡ length (entries (take l.slot-index l.slot-items))) × (l.count ≤ l.slot-index)
