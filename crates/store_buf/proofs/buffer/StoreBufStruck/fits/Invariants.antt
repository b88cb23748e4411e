use Rattle.std.proofs.Common.{ℕ, ◌<◌, get_or}
use Rattle.store_buf.specs.Entry.{Entry}
use Rattle.store_buf.specs.EntryBits as pending
use Rattle.store_buf.proofs.buffer.StoreBufStruck.fits.Given as goal

abbrev pub invariant-loop-slot : goal.invariant-loop-slot
invariant-loop-slot l = (k : ℕ) (d : Entry) → k < l.slot-index → pending.IsFit (get_or l.slot-items k d)
