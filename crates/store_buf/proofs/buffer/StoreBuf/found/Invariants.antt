use Rattle.std.proofs.Common.{◌≡◌, take}
use Rattle.store_buf.specs.Covers as covers
use Rattle.store_buf.proofs.buffer.StoreBuf.found.Given as goal

-- the youngest of the slots so far
abbrev pub invariant-loop-slot : goal.invariant-loop-slot
invariant-loop-slot l = l.youngest ≡ covers.found (take l.slot-index l.slot-items) l.addr l.lane
