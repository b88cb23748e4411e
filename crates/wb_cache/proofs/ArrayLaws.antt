-- The laws of a flip, for the bytes and for the tags of the cache.
use Rattle.std.specs.Prelude.{◌≡◌, ◌⊎◌, ℕ, ◌-◌, ◌*◌, ◌/◌, ◌^◌, ◌<◌, length, All, bit_xor, refl}
use Rattle.std.proofs.Common.{arith}
use Rattle.std.proofs.Math.ListN.{length-set}
use Rattle.std.specs.Int.{bit_at}
use Rattle.bit_field.specs.Laws.{FlipLaws}
use Rattle.bit_field.proofs.Arrays.{laws_of_list, laws_of_number, laws_of_numbers, ShowsNumbers}
use Rattle.wb_cache.specs.Bits.{bit_of_data, flip_data}
use Rattle.wb_cache.specs.Tags.{IsFit, bit_count, bit_of, flipped}

pub data_laws : FlipLaws (All (λ b. b < 2 ^ 8)) (λ xs. length xs * 8) bit_of_data flip_data
data_laws = laws_of_list 8 0 (λ b. b < 2 ^ 8) bit_at (λ v j. bit_xor v (2 ^ j)) (omega arith) (laws_of_number 8)

-- what the number of bits says of the width: each of these widths has its own numbers of bits
same_width_by : (v w n m : ℕ) → (v ≡ 21) ⊎ (v ≡ 22) ⊎ (v ≡ 23) ⊎ (v ≡ 24) → (w ≡ 21) ⊎ (w ≡ 22) ⊎ (w ≡ 23) ⊎ (w ≡ 24)
    → (n ≡ 2 ^ (28 - v)) ⊎ (n ≡ 2 * 2 ^ (28 - v)) ⊎ (n ≡ 4 * 2 ^ (28 - v)) → (m ≡ 2 ^ (28 - w)) ⊎ (m ≡ 2 * 2 ^ (28 - w)) ⊎ (m ≡ 4 * 2 ^ (28 - w))
    → n * v ≡ m * w → v ≡ w
same_width_by v w n m p q r s e = grind arith

shows : ShowsNumbers IsFit (λ t. t.width) (λ t. t.tags) flipped
shows = record {
  positive = λ x h. grind (arith, h.array.width);
  numbers_fit = λ x h. h.below;
  flips = λ x k. refl;
  width_stays = λ x k. refl;
  fit_stays = λ x k h below. record { array = record { width = h.array.width; ways = rw (length-set x.tags (k / x.width) _) h.array.ways }; below = below };
  same_width = λ x y h i e. same_width_by x.width y.width (length x.tags) (length y.tags) h.array.width i.array.width h.array.ways i.array.ways e;
  same = λ x y h i e f. λ j. record { width = e j; tags = f j };
}

pub tag_laws : FlipLaws IsFit bit_count bit_of flipped
tag_laws = laws_of_numbers IsFit (λ t. t.width) (λ t. t.tags) flipped shows
