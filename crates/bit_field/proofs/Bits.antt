-- A number with one bit flipped.
use Rattle.std.proofs.Common.{◌≡◌, ◌≢◌, ℕ, ◌-◌, ◌*◌, ◌%◌, ◌^◌, ◌<◌, ◌≤◌, arith}
use Rattle.std.specs.Int.{bit_at}
use Rattle.std.specs.Prelude.{bit_xor}
use Rattle.std.proofs.lemmas.Nat.{xor_lt, one_shl, pow_below}
use Rattle.std.proofs.lemmas.Nat.Bits.{bit_at_xor, bit_at-lt, bit_at-pow_same, bit_at-pow_other, same_from_bits}

pub bit_at-flip_same : (n k : ℕ) → bit_at (bit_xor n (2 ^ k)) k ≡ 1 - bit_at n k
bit_at-flip_same n k = omega (arith, bit_at_xor n (2 ^ k) k, bit_at-pow_same k, bit_at-lt n k)

pub bit_at-flip_other : (n k j : ℕ) → j ≢ k → bit_at (bit_xor n (2 ^ k)) j ≡ bit_at n j
bit_at-flip_other n k j ne = omega (arith, bit_at_xor n (2 ^ k) j, bit_at-pow_other k j ne, bit_at-lt n j)

pub flip_below : (n k w : ℕ) → n < 2 ^ w → k < w → bit_xor n (2 ^ k) < 2 ^ w
flip_below n k w h l = xor_lt w n (2 ^ k) h (pow_below k w l)

pub flip_twice : (n k : ℕ) → bit_xor (bit_xor n (2 ^ k)) (2 ^ k) ≡ n
flip_twice n k = same_from_bits _ _ (λ i. omega (arith, bit_at_xor (bit_xor n (2 ^ k)) (2 ^ k) i, bit_at_xor n (2 ^ k) i, bit_at-lt n i, bit_at-lt (2 ^ k) i))

-- the mask as the program makes it, at b bits
pub shifted_below : (b n k w : ℕ) → n < 2 ^ w → k < w → w ≤ b → bit_xor n (1 * 2 ^ k % 2 ^ b) < 2 ^ w
shifted_below b n k w h l m = rw (one_shl k b (omega arith)) (flip_below n k w h l)

pub shifted_below_8 : (n k w : ℕ) → n < 2 ^ w → k < w → w ≤ 8 → bit_xor n (1 * 2 ^ k % 2 ^ 8) < 2 ^ w
shifted_below_8 n k w = shifted_below 8 n k w

pub shifted_below_32 : (n k w : ℕ) → n < 2 ^ w → k < w → w ≤ 32 → bit_xor n (1 * 2 ^ k % 2 ^ 32) < 2 ^ w
shifted_below_32 n k w = shifted_below 32 n k w
