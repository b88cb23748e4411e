-- The bits of a word of four bytes, and of the bytes of a word.
use Rattle.std.proofs.Common.{◌≡◌, ◌↔◌, ℕ, zero, suc, ◌+◌, ◌-◌, ◌*◌, ◌/◌, ◌%◌, ◌^◌, ◌<◌, ◌≤◌, true, [], ◌∷◌, refl, sym, ◌∙◌, ap, arith}
use Rattle.std.specs.Int.{bit_at, from_le_bytes, w32}
use Rattle.std.specs.Prelude.{bit_and, slice_index, Some}
use Rattle.std.proofs.Math.Nat.{div-eq_of_lt, pow-le-pow_right}
use Rattle.std.proofs.lemmas.Bool.Decides.{nat_tests}
use Rattle.std.proofs.lemmas.Nat.{and_mask}
use Rattle.std.proofs.lemmas.Nat.Bits.{bit_at_cat_low, bit_at_cat_high}
use Rattle.bit_field.proofs.Low.{bit_at-mod}
use Rattle.rv_table.specs.Accesses.{byte_of}
use Rattle.need_pass.specs.Links.{has_byte}
use Rattle.need_pass.specs.Masks.{IsMaskOf}

pub low_byte : (x j : ℕ) → j < 8 → bit_at (bit_and x 255) j ≡ bit_at x j
low_byte x j l = ap (λ n. bit_at n j) (and_mask x 8) ∙ bit_at-mod x 8 j l

pub byte_low : (word n : ℕ) → bit_and (word / 2 ^ (8 * n)) 255 ≡ byte_of word n
unfolding byte_of
byte_low word n = and_mask (word / 2 ^ (8 * n)) 8

pub byte_past : (word n : ℕ) → word < 2 ^ 32 → 4 ≤ n → 0 ≡ byte_of word n
unfolding byte_of
byte_past word n l m =
    let z : word / 2 ^ (8 * n) ≡ 0 = div-eq_of_lt {n = word} {m = 2 ^ (8 * n)} (omega (arith, pow-le-pow_right {n = 2} (omega arith) {i = 32} {j = 8 * n} (omega arith))) in
    rw z refl

-- a byte of four bytes' word
nested : (a b c d : ℕ) → a + b * 256 + c * 65536 + d * 16777216 ≡ ((d * 2 ^ 8 + c) * 2 ^ 8 + b) * 2 ^ 8 + a
nested a b c d = omega arith

four : (a b c d : ℕ) → from_le_bytes w32 (a ∷ b ∷ c ∷ d ∷ []) ≡ ((d * 2 ^ 8 + c) * 2 ^ 8 + b) * 2 ^ 8 + a
four a b c d = omega arith

low : (h b j : ℕ) → j < 8 → bit_at (h * 2 ^ 8 + b) j ≡ bit_at b j
low h b j l = bit_at_cat_low h 8 b j l

high : (h b j : ℕ) → b < 2 ^ 8 → bit_at (h * 2 ^ 8 + b) (8 + j) ≡ bit_at h j
high h b j l = bit_at_cat_high h 8 b (8 + j) l (omega arith) ∙ ap (bit_at h) (omega arith)

pub word_bits : (a b c d : ℕ) → a < 2 ^ 8 → b < 2 ^ 8 → c < 2 ^ 8 → d < 2 ^ 8 → (n k : ℕ) → n < 4 → k < 8 → bit_at (from_le_bytes w32 (a ∷ b ∷ c ∷ d ∷ [])) (8 * n + k) ≡ bit_at (slice_index (a ∷ b ∷ c ∷ d ∷ []) n) k
word_bits a b c d p q r s zero k l m =
    let e : 8 * zero + k ≡ k = omega arith in
    rw (four a b c d, e) (low ((d * 2 ^ 8 + c) * 2 ^ 8 + b) a k m)
word_bits a b c d p q r s (suc zero) k l m =
    let e : 8 * suc zero + k ≡ 8 + k = omega arith in
    rw (four a b c d, e) (high ((d * 2 ^ 8 + c) * 2 ^ 8 + b) a k p ∙ low (d * 2 ^ 8 + c) b k m)
word_bits a b c d p q r s (suc (suc zero)) k l m =
    let e : 8 * suc (suc zero) + k ≡ 8 + (8 + k) = omega arith in
    rw (four a b c d, e) (high ((d * 2 ^ 8 + c) * 2 ^ 8 + b) a (8 + k) p ∙ high (d * 2 ^ 8 + c) b k q ∙ low d c k m)
word_bits a b c d p q r s (suc (suc (suc zero))) k l m =
    let e : 8 * suc (suc (suc zero)) + k ≡ 8 + (8 + (8 + k)) = omega arith in
    rw (four a b c d, e) (high ((d * 2 ^ 8 + c) * 2 ^ 8 + b) a (8 + (8 + k)) p ∙ high (d * 2 ^ 8 + c) b (8 + k) q ∙ high d c k r)
word_bits a b c d p q r s (suc (suc (suc (suc n)))) k l m = absurd (omega arith)

-- each of four
pub each_of_four : (P : ℕ → ℕ → Type 0) (a b c d : ℕ) → P 0 a → P 1 b → P 2 c → P 3 d → (n : ℕ) → n < 4 → P n (slice_index (a ∷ b ∷ c ∷ d ∷ []) n)
each_of_four P a b c d p q r s zero l = p
each_of_four P a b c d p q r s (suc zero) l = q
each_of_four P a b c d p q r s (suc (suc zero)) l = r
each_of_four P a b c d p q r s (suc (suc (suc zero))) l = s
each_of_four P a b c d p q r s (suc (suc (suc (suc n)))) l = absurd (omega arith)

-- the mask of an access' bytes, from those of its first four
pub accessed_bits : (f g : ℕ → ℕ) (addr size word : ℕ) → ((n j : ℕ) → n < 4 → j < 8 → (bit_at (g n) j ≡ 1) ↔ ((n < size) × (addr + n < 2 ^ 32) × (bit_at (f (addr + n)) j ≡ 1))) → ((n k : ℕ) → n < 4 → k < 8 → bit_at word (8 * n + k) ≡ bit_at (g n) k) → IsMaskOf word (λ k. (p j : ℕ) × (p < 2 ^ 32) × (j < 8) × (has_byte (Some (addr, size)) p ≡ true) × (k ≡ 8 * (p - addr) + j) × (bit_at (f p) j ≡ 1))
accessed_bits f g addr size word bytes bits k l = (
  λ one.
      let e : 8 * (k / 8) + k % 8 ≡ k = omega arith in
      let b : bit_at (g (k / 8)) (k % 8) ≡ 1 = sym (bits (k / 8) (k % 8) (omega arith) (omega arith)) ∙ rw e one in
      let (s, t, o) = (bytes (k / 8) (k % 8) (omega arith) (omega arith)).0 b in
      (addr + k / 8, k % 8, t, omega arith, grind (arith, nat_tests), omega arith, o),
  λ (p, j, b, m, h, e, o).
      let i : addr ≤ p = grind (arith, nat_tests) in
      let t : p < addr + size = grind (arith, nat_tests) in
      let x : addr + (p - addr) ≡ p = omega arith in
      let y : bit_at (f (addr + (p - addr))) j ≡ 1 = rw x o in
      let z : bit_at (g (p - addr)) j ≡ 1 = (bytes (p - addr) j (omega arith) m).1 (omega arith, omega arith, y) in
      rw e (bits (p - addr) j (omega arith) m ∙ z),
)
