-- Numbers among the words of a command.
use Rattle.std.specs.Prelude.{ℕ, List, length, Bool, not, ◌&&◌, ◌||◌, Option, Some, None, slice_index, nat_eq, nat_lt, nat_le, ◌==◌, if◌then◌else◌}
use Rattle.std.specs.Str.{all_ascii_digits}
use Rattle.std.specs.Str.Parse.{digits_value}

-- `0` itself, or with no zero in front
abbrev pub is_plain : List ℕ → Bool
is_plain text = nat_eq (length text) 1 || not (slice_index text 0 == 48)

-- decimal digits with no leading zero, but for `0` itself
abbrev pub is_numeral : List ℕ → Bool
is_numeral text = all_ascii_digits text && nat_lt 0 (length text) && is_plain text

abbrev pub within : ℕ → ℕ → ℕ → Option ℕ
within least most n = if nat_le least n && nat_le n most then Some n else None

-- the number from `least` to `most` that a word spells
abbrev pub number : ℕ → ℕ → List ℕ → Option ℕ
number least most text = if is_numeral text then within least most (digits_value 10 text) else None
