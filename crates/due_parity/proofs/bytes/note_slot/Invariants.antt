use Rattle.std.proofs.Common.{◌+◌, ◌*◌}
use Rattle.due_parity.specs.Rows.{IsNotedIn, slot_touch}
use Rattle.due_parity.proofs.bytes.note_slot.Given as goal

abbrev pub invariant-loop-byte : goal.invariant-loop-byte
invariant-loop-byte l = IsNotedIn (slot_touch l.event l.slot l.dirty) l.cycle (16 * l.slot) (16 * l.slot + l.byte) l.fn.rows l.rows
