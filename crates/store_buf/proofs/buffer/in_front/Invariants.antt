use Rattle.bit_field.proofs.Slots.{IsMovedSoFar}
use Rattle.store_buf.specs.Entry.{no_entry}
use Rattle.store_buf.specs.Pending.{is_pending}
use Rattle.store_buf.specs.declared.buffer.TheConstants.{SLOTS}
use Rattle.store_buf.proofs.buffer.in_front.Given as goal

-- the pending ones so far stand in front
abbrev pub invariant-loop-slot : goal.invariant-loop-slot
invariant-loop-slot l = IsMovedSoFar is_pending SLOTS no_entry l.slots l.next l.count l.slot-index
