-- The four slots of the instruction buffer, seen as a list of the instructions that wait.
use Rattle.std.specs.Prelude.{ℕ, List, filter, slice_index_or}
use Rattle.bit_field.specs.Slots.{in_front}
use Rattle.inst_buf.specs.Entry.{Entry, no_entry}
use Rattle.inst_buf.specs.declared.buffer.TheConstants.{SLOTS}

-- the entries, first to last: the valid slots in slot order, whatever the slots hold
abbrev pub entries : List Entry → List Entry
entries slots = filter (λ e. e.valid) slots

-- the slots that hold this list: it stands in slots 0, 1, .., and all other slots are empty
abbrev pub packed : List Entry → List Entry
packed = in_front SLOTS no_entry

abbrev pub slot_of : List Entry → ℕ → Entry
slot_of slots k = slice_index_or slots k no_entry
