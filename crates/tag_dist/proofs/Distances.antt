-- The line at distance one is a line.
use Rattle.std.proofs.Common.{◌≡◌, ◌⊎◌, ℕ, ◌+◌, ◌-◌, ◌*◌, ◌/◌, ◌%◌, ◌^◌, ◌<◌, arith}
use Rattle.std.specs.Prelude.{bit_xor}
use Rattle.bit_field.specs.Shapes.{IsShape, index_bits, tag_bits}
use Rattle.bit_field.specs.declared.shapes.Shape.{Shape}
use Rattle.bit_field.proofs.Bits.{shifted_below_32}
use Rattle.wb_cache.proofs.Sizes.{line_below, set_below}

tag_below_by : (sets line : ℕ) → (sets ≡ 16) ⊎ (sets ≡ 32) ⊎ (sets ≡ 64) ⊎ (sets ≡ 128) → line < 2 ^ 28 → line / sets < 2 ^ (28 - index_bits sets)
tag_below_by sets line p h = grind arith

pub distance_below : (s : Shape) (line bit : ℕ) → IsShape s → line < 2 ^ 28 → bit < tag_bits s →
    s.sets * bit_xor (line / s.sets) (1 * 2 ^ bit % 2 ^ 32) + line % s.sets < 2 ^ 28
distance_below s line bit is l b =
    line_below s (line % s.sets) (bit_xor (line / s.sets) (1 * 2 ^ bit % 2 ^ 32)) is (set_below s line is)
    (shifted_below_32 (line / s.sets) bit (tag_bits s) (tag_below_by s.sets line is.sets l) b (omega arith))
