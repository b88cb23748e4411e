-- The tags of all line slots, each of the same width.
use Rattle.std.specs.Prelude.{◌≡◌, ◌⊎◌, ℕ, ◌*◌, ◌^◌, ◌-◌, ◌<◌, List, length, All, bit_xor}
use Rattle.std.specs.Int.{bit_at}
use Rattle.bit_field.specs.Arrays.{bit_of_array, flip_array}

pub record TagArray : Type 0 where
  pub width : ℕ  -- bits of a tag
  pub tags : List ℕ  -- by line slot

-- The width goes with the number of sets, since a line has 28 bits; there are 1, 2 or 4 ways.
pub record IsTagArray (t : TagArray) : Type 0 where
  pub width : (t.width ≡ 21) ⊎ (t.width ≡ 22) ⊎ (t.width ≡ 23) ⊎ (t.width ≡ 24)
  pub ways : (length t.tags ≡ 2 ^ (28 - t.width)) ⊎ (length t.tags ≡ 2 * 2 ^ (28 - t.width)) ⊎ (length t.tags ≡ 4 * 2 ^ (28 - t.width))

pub record IsFit (t : TagArray) : Type 0 where
  pub array : IsTagArray t
  pub below : All (λ v. v < 2 ^ t.width) t.tags

-- bit k of the tag of slot l is bit width * l + k
abbrev pub bit_count : TagArray → ℕ
bit_count t = length t.tags * t.width

abbrev pub bit_of : TagArray → ℕ → ℕ
bit_of t = bit_of_array t.width 0 bit_at t.tags

abbrev pub flipped : TagArray → ℕ → TagArray
flipped t k = record t { tags = flip_array t.width 0 (λ v j. bit_xor v (2 ^ j)) t.tags k }
