-- The laws of a flip for the store buffer.
use Rattle.std.proofs.Common.{arith}
use Rattle.bit_field.specs.Laws.{FlipLaws}
use Rattle.bit_field.proofs.Arrays.{laws_of_array}
use Rattle.store_buf.specs.BufferBits.{IsFit, bit_count, bit_of, flipped}
use Rattle.store_buf.specs.Entry.{no_entry}
use Rattle.store_buf.specs.EntryBits as pending
use Rattle.store_buf.specs.declared.buffer.TheConstants.{SLOTS}
use Rattle.store_buf.specs.declared.pending.TheConstants.{PENDING_BITS}
use Rattle.store_buf.proofs.EntryLaws as pending_laws

pub laws : FlipLaws IsFit (λ _. bit_count) bit_of flipped
laws = laws_of_array SLOTS PENDING_BITS no_entry pending.IsFit pending.bit_of pending.flipped (omega arith) pending_laws.laws
