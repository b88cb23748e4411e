-- The four byte lanes of a word: lane 0 is its lowest byte. A mask names lane l by its bit l.
use Rattle.std.specs.Prelude.{ℕ, ◌==◌, Bool, slice_index}
use Rattle.std.specs.Int.{w32, bit_at, to_le_bytes}

-- whether a mask names a lane
abbrev pub has_lane : ℕ → ℕ → Bool
has_lane mask lane = bit_at mask lane == 1

-- a lane's byte of a word
abbrev pub lane_byte : ℕ → ℕ → ℕ
lane_byte value lane = slice_index (to_le_bytes w32 value) lane
