-- The bits of the branch history, counter after counter.
use Rattle.std.specs.Prelude.{ℕ, ◌*◌, ◌^◌, ◌<◌, List}
use Rattle.std.specs.Int.{bit_at}
use Rattle.bit_field.specs.Arrays.{bit_of_array, flip_array, IsArray}
use Rattle.bit_field.specs.Layouts.{flip}
use Rattle.predictor.specs.declared.history.TheConstants.{COUNTERS, COUNTER_WIDTH}

abbrev pub IsFit : List ℕ → Type 0
IsFit = IsArray COUNTERS (λ counter. counter < 2 ^ COUNTER_WIDTH)

abbrev pub bit_count : ℕ
bit_count = COUNTERS * COUNTER_WIDTH

abbrev pub bit_of : List ℕ → ℕ → ℕ
bit_of = bit_of_array COUNTER_WIDTH 0 bit_at

abbrev pub flipped : List ℕ → ℕ → List ℕ
flipped = flip_array COUNTER_WIDTH 0 flip
