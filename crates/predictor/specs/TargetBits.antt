-- The bits of the branch target buffer, entry after entry.
use Rattle.std.specs.Prelude.{ℕ, ◌*◌, List}
use Rattle.bit_field.specs.Arrays.{bit_of_array, flip_array, IsArray}
use Rattle.predictor.specs.EntryBits as entry
use Rattle.predictor.specs.Tables.{Target, no_target}
use Rattle.predictor.specs.declared.targets.TheConstants.{ENTRIES, ENTRY_BITS}

abbrev pub IsFit : List Target → Type 0
IsFit = IsArray ENTRIES entry.IsFit

abbrev pub bit_count : ℕ
bit_count = ENTRIES * ENTRY_BITS

abbrev pub bit_of : List Target → ℕ → ℕ
bit_of = bit_of_array ENTRY_BITS no_target entry.bit_of

abbrev pub flipped : List Target → ℕ → List Target
flipped = flip_array ENTRY_BITS no_target entry.flipped
