-- The stores that wait in the buffer, whatever its slots hold.
use Rattle.std.specs.Prelude.{ℕ, ◌==◌, Bool, not, List, [], ◌∷◌, filter, slice_index_or, Option, Some, None}
use Rattle.bit_field.specs.Slots.{in_front}
use Rattle.store_buf.specs.Entry.{Entry, no_entry}
use Rattle.store_buf.specs.declared.buffer.TheConstants.{SLOTS}

abbrev pub is_pending : Entry → Bool
is_pending e = not (e.mask == 0)

-- the pending stores in slot order, the oldest first
abbrev pub pending : List Entry → List Entry
pending slots = filter is_pending slots

-- the slots with a list of stores in front and free slots behind them
abbrev pub packed : List Entry → List Entry
packed = in_front SLOTS no_entry

abbrev pub slot_of : List Entry → ℕ → Entry
slot_of slots k = slice_index_or slots k no_entry

abbrev pub oldest : List Entry → Option Entry
oldest [] = None
oldest (e ∷ es) = Some e

-- all but the oldest
abbrev pub younger : List Entry → List Entry
younger [] = []
younger (e ∷ es) = es
