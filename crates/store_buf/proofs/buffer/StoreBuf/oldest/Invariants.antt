use Rattle.std.proofs.Common.{◌≡◌, [], take}
use Rattle.store_buf.specs.Pending.{pending}
use Rattle.store_buf.proofs.buffer.StoreBuf.oldest.Given as goal

abbrev pub invariant-loop-slot : goal.invariant-loop-slot
invariant-loop-slot l = pending (take l.slot-index l.slot-items) ≡ []
