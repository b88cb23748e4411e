-- The laws of a flip for the branch target buffer.
use Rattle.std.proofs.Common.{arith}
use Rattle.bit_field.specs.Laws.{FlipLaws}
use Rattle.bit_field.proofs.Arrays.{laws_of_array}
use Rattle.predictor.specs.EntryBits as entry
use Rattle.predictor.specs.declared.targets.TheConstants.{ENTRIES, ENTRY_BITS}
use Rattle.predictor.specs.Tables.{no_target}
use Rattle.predictor.specs.TargetBits.{IsFit, bit_count, bit_of, flipped}
use Rattle.predictor.proofs.EntryLaws as entry_laws

pub laws : FlipLaws IsFit (λ _. bit_count) bit_of flipped
laws = laws_of_array ENTRIES ENTRY_BITS no_target entry.IsFit entry.bit_of entry.flipped (omega arith) entry_laws.laws
