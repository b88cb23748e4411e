use Rattle.std.proofs.Common.{◌≡◌, ◌≤◌, length, take}
use Rattle.store_buf.specs.Pending.{pending}
use Rattle.store_buf.proofs.buffer.StoreBuf.len.Given as goal

abbrev pub invariant-loop-slot : goal.invariant-loop-slot
invariant-loop-slot l = (l.count ≡ length (pending (take l.slot-index l.slot-items))) × (l.count ≤ l.slot-index)
