-- The laws of a flip for the branch history.
use Rattle.std.proofs.Common.{◌^◌, ◌<◌, arith}
use Rattle.std.specs.Int.{bit_at}
use Rattle.bit_field.specs.Laws.{FlipLaws}
use Rattle.bit_field.specs.Layouts.{flip}
use Rattle.bit_field.proofs.Arrays.{laws_of_array, laws_of_number}
use Rattle.predictor.specs.HistoryBits.{IsFit, bit_count, bit_of, flipped}
use Rattle.predictor.specs.declared.history.TheConstants.{COUNTERS, COUNTER_WIDTH}

pub laws : FlipLaws IsFit (λ _. bit_count) bit_of flipped
laws = laws_of_array COUNTERS COUNTER_WIDTH 0 (λ counter. counter < 2 ^ COUNTER_WIDTH) bit_at flip (omega arith) (laws_of_number COUNTER_WIDTH)
