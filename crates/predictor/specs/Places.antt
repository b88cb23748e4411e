-- The places of the predictor that can be struck: the bits of its two tables.
use Rattle.std.specs.Prelude.{ℕ, ◌<◌}
use Rattle.bit_field.specs.declared.places.Place.{Place}
use Rattle.bit_field.specs.declared.places.Structure.{Structure}
use Rattle.bit_field.specs.declared.places.Structure.TheVariants.{Bht, Btb}
use Rattle.predictor.specs.Tables.{Tables}
use Rattle.predictor.specs.HistoryBits as history_bits
use Rattle.predictor.specs.TargetBits as target_bits

-- bit k of the structure is one of the predictor's
abbrev pub IsBit : Structure → ℕ → Type 0
IsBit Bht k = k < history_bits.bit_count
IsBit Btb k = k < target_bits.bit_count
IsBit _ k = ⊥

abbrev pub IsPlace : Place → Type 0
IsPlace place = IsBit place.structure place.bit

abbrev pub bit_in : Structure → Tables → ℕ → ℕ
bit_in Bht tables k = history_bits.bit_of tables.history k
bit_in Btb tables k = target_bits.bit_of tables.targets k
bit_in _ tables k = 0

abbrev pub bit_at_place : Tables → Place → ℕ
bit_at_place tables place = bit_in place.structure tables place.bit

abbrev pub flip_in : Structure → Tables → ℕ → Tables
flip_in Bht tables k = record tables { history = history_bits.flipped tables.history k }
flip_in Btb tables k = record tables { targets = target_bits.flipped tables.targets k }
flip_in _ tables k = tables

abbrev pub flip_at_place : Tables → Place → Tables
flip_at_place tables place = flip_in place.structure tables place.bit

-- each counter and each field is below its width
pub record IsFit (tables : Tables) : Type 0 where
  pub history : history_bits.IsFit tables.history
  pub targets : target_bits.IsFit tables.targets
