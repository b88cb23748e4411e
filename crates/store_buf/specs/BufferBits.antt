-- The bits of the store buffer, slot after slot.
use Rattle.std.specs.Prelude.{ℕ, ◌*◌, List}
use Rattle.bit_field.specs.Arrays.{bit_of_array, flip_array, IsArray}
use Rattle.store_buf.specs.Entry.{Entry, no_entry}
use Rattle.store_buf.specs.EntryBits as pending
use Rattle.store_buf.specs.declared.buffer.TheConstants.{SLOTS}
use Rattle.store_buf.specs.declared.pending.TheConstants.{PENDING_BITS}

abbrev pub IsFit : List Entry → Type 0
IsFit = IsArray SLOTS pending.IsFit

abbrev pub bit_count : ℕ
bit_count = SLOTS * PENDING_BITS

abbrev pub bit_of : List Entry → ℕ → ℕ
bit_of = bit_of_array PENDING_BITS no_entry pending.bit_of

abbrev pub flipped : List Entry → ℕ → List Entry
flipped = flip_array PENDING_BITS no_entry pending.flipped
