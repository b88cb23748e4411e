-- The bits of a signed shift to the right.
use Rattle.std.proofs.Common.{◌≡◌, ℕ, zero, suc, ◌+◌, ◌-◌, ◌*◌, ◌/◌, ◌^◌, ◌<◌, ◌≤◌, true, false, ltb, sym, ◌∙◌, arith, inl, inr}
use Rattle.std.specs.Int.{bit_at}
use Rattle.std.proofs.Math.Nat.{mul_comm, suc-mul}
use Rattle.std.proofs.lemmas.Bool.{cases_lt}
use Rattle.std.proofs.lemmas.Bool.Decides.{nat_tests}
use Rattle.std.proofs.lemmas.Nat.{pow_pos}
use Rattle.std.proofs.lemmas.Nat.Bits.{bit_at_above, bit_at_ones, bit_at_cat_low, bit_at_cat_high}
use Rattle.bit_field.proofs.Low.{bit_at-shr}
use Rattle.rv_table.specs.Arithmetic.{shift_signed}
use Rattle.rv_table.proofs.Results.{part_below}
use Rattle.rv_table.proofs.Signed.{power_split}

-- the copies of the sign, above what is left of the number
pub high_part : (p q w x : ℕ) → q * p ≡ w → 0 < p → x + (w - q) ≡ (p - 1) * q + x
high_part zero q w x e pos = absurd (omega arith)
high_part (suc r) q w x e pos =
    let u : suc r - 1 ≡ r = omega arith in
    let v : q * suc r ≡ r * q + q = mul_comm q (suc r) ∙ suc-mul r q in
    rw u (omega (arith, v))

top_one : (a : ℕ) → a < 2 ^ 32 → 2 ^ 31 ≤ a → bit_at a 31 ≡ 1
top_one a h l = omega arith

high : (a n : ℕ) → n < 32 → a / 2 ^ n + (2 ^ 32 - 2 ^ (32 - n)) ≡ (2 ^ n - 1) * 2 ^ (32 - n) + a / 2 ^ n
high a n l = high_part (2 ^ n) (2 ^ (32 - n)) (2 ^ 32) (a / 2 ^ n) (power_split n l) (pow_pos n)

pub shift_signed-low : (a n j : ℕ) → a < 2 ^ 32 → n < 32 → n + j < 32 → bit_at (shift_signed a n) j ≡ bit_at a (n + j)
shift_signed-low a n j h l m =
    elim (cases_lt a (2 ^ 31)) [
      | inl b ↦ let t : ltb a (2 ^ 31) ≡ true = grind (arith, nat_tests) in rw t (bit_at-shr a n j)
      | inr b ↦
          let t : ltb a (2 ^ 31) ≡ false = grind (arith, nat_tests) in
          rw (t, high a n l) (bit_at_cat_low (2 ^ n - 1) (32 - n) (a / 2 ^ n) j (omega arith) ∙ bit_at-shr a n j)
    ]

pub shift_signed-high : (a n j : ℕ) → a < 2 ^ 32 → n < 32 → j < 32 → 32 ≤ n + j → bit_at (shift_signed a n) j ≡ bit_at a 31
shift_signed-high a n j h l k m =
    elim (cases_lt a (2 ^ 31)) [
      | inl b ↦
          let t : ltb a (2 ^ 31) ≡ true = grind (arith, nat_tests) in
          rw t (bit_at-shr a n j ∙ bit_at_above a 31 (n + j) b (omega arith) ∙ sym (bit_at_above a 31 31 b (omega arith)))
      | inr b ↦
          let t : ltb a (2 ^ 31) ≡ false = grind (arith, nat_tests) in
          rw (t, high a n l) (bit_at_cat_high (2 ^ n - 1) (32 - n) (a / 2 ^ n) j (part_below a n h l) (omega arith) ∙ bit_at_ones n (j - (32 - n)) (omega arith) ∙ sym (top_one a h b))
    ]
