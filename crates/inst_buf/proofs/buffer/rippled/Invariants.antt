use Rattle.bit_field.proofs.Slots.{IsMovedSoFar}
use Rattle.inst_buf.specs.Entry.{no_entry}
use Rattle.inst_buf.specs.declared.buffer.TheConstants.{SLOTS}
use Rattle.inst_buf.proofs.buffer.rippled.Given as goal

-- the valid ones so far stand in front
abbrev pub invariant-loop-slot : goal.invariant-loop-slot
invariant-loop-slot l = IsMovedSoFar (λ e. e.valid) SLOTS no_entry l.slots l.next l.count l.slot-index
