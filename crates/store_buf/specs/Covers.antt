-- What a load finds in the store buffer: each lane that it wants is looked for in the pending stores to its word, the
-- youngest first.
use Rattle.std.specs.Prelude.{ℕ, ◌==◌, Bool, not, cond, ◌&&◌, ◌||◌, List, [], ◌∷◌, Option, Some, None, is_some, is_none, unwrap_or}
use Rattle.std.specs.Int.{w32, from_le_bytes}
use Rattle.std.specs.Option.{option_or}
use Rattle.bit_field.specs.Lanes.{has_lane, lane_byte}
use Rattle.store_buf.specs.Entry.{Entry}
use Rattle.store_buf.specs.declared.cover.Cover.{Cover}
use Rattle.store_buf.specs.declared.cover.Cover.TheVariants.{Full, Part, None as Uncovered}

-- the byte that a store holds for a lane of the word at addr, if it writes that lane
unfoldable pub held : Entry → ℕ → ℕ → Option ℕ
held e addr lane = cond (e.addr == addr && has_lane e.mask lane) (Some (lane_byte e.value lane)) None

-- the byte of the youngest store that holds one, the oldest store being the first of the list
unfoldable pub found : List Entry → ℕ → ℕ → Option ℕ
found [] addr lane = None
found (e ∷ es) addr lane = option_or (found es addr lane) (held e addr lane)

-- a lane that isn't wanted is neither to be found nor to be missed
abbrev pub is_found : List Entry → ℕ → ℕ → ℕ → Bool
is_found stores addr lanes lane = not (has_lane lanes lane) || is_some (found stores addr lane)

abbrev pub is_missing : List Entry → ℕ → ℕ → ℕ → Bool
is_missing stores addr lanes lane = not (has_lane lanes lane) || is_none (found stores addr lane)

abbrev pub each_lane : (ℕ → Bool) → Bool
each_lane test = test 0 && test 1 && test 2 && test 3

-- whether each lane of a mask is held, and whether none is
unfoldable pub all_found : List Entry → ℕ → ℕ → Bool
all_found stores addr lanes = each_lane (is_found stores addr lanes)

unfoldable pub none_found : List Entry → ℕ → ℕ → Bool
none_found stores addr lanes = each_lane (is_missing stores addr lanes)

-- the byte found for a lane, and 0 for a lane that isn't wanted
unfoldable pub byte_found : List Entry → ℕ → ℕ → ℕ → ℕ
byte_found stores addr lanes lane = cond (has_lane lanes lane) (unwrap_or (found stores addr lane) 0) 0

unfoldable pub word_found : List Entry → ℕ → ℕ → ℕ
word_found stores addr lanes =
    from_le_bytes w32
    (byte_found stores addr lanes 0 ∷ byte_found stores addr lanes 1 ∷ byte_found stores addr lanes 2 ∷ byte_found stores addr lanes 3 ∷ [])

-- what the pending stores hold of the lanes of the word at addr
unfoldable pub covered : List Entry → ℕ → ℕ → Cover
covered stores addr lanes =
    cond (all_found stores addr lanes) (Full (word_found stores addr lanes)) (cond (none_found stores addr lanes) Uncovered Part)
