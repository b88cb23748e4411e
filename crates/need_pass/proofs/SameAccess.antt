-- Non-interference of loads and stores at one bit.
use Rattle.std.proofs.Common.{◌≡◌, ℕ, ◌+◌, ◌-◌, ◌*◌, ◌/◌, ◌%◌, ◌^◌, ◌<◌, ◌≤◌, true, false, ltb, [], ◌∷◌, refl, sym, ◌∙◌, ap, arith, inl, inr, lit<}
use Rattle.std.specs.Int.{bit_at, from_le_bytes, w32}
use Rattle.std.proofs.lemmas.Bool.{cases_lt}
use Rattle.std.proofs.lemmas.Bool.Decides.{nat_tests}
use Rattle.std.proofs.lemmas.Nat.Bits.{bit_at_above, bit_at_ones, bit_at_cat_low, bit_at_cat_high}
use Rattle.bit_field.proofs.Low.{bit_at-mod, bit_at-shr}
use Rattle.rv_table.proofs.Ranges.{half_below}
use Rattle.rv_table.proofs.Loads.{accessed}
use Rattle.rv_table.specs.Accesses.{accesses, byte_of, load_size, loaded, extended_byte, extended_half, half_at, word_at, word_of_bytes}
use Rattle.rv_table.specs.declared.operation.LoadKind.{LoadKind}
use Rattle.rv_table.specs.declared.operation.LoadKind.TheVariants.{Lb, Lh, Lw, Lbu, Lhu}
use Rattle.need_pass.specs.Links.{FromLoaded}
use Rattle.need_pass.proofs.ByteBits.{word_bits, each_of_four}

-- where two memories agree, in the bits of the accessed bytes of which P holds
abbrev SameBytes : ℕ → ℕ → (ℕ → Type 0) → (ℕ → ℕ) → (ℕ → ℕ) → Type 0
SameBytes size x P f g = (p k : ℕ) → accesses size x p ≡ true → k < 8 → P (8 * (p % size) + k) → bit_at (f p) k ≡ bit_at (g p) k

byte_same : (x m : ℕ) (P : ℕ → Type 0) (f g : ℕ → ℕ) → SameBytes 1 x P f g → m < 8 → P m → bit_at (f x) m ≡ bit_at (g x) m
byte_same x m P f g same l p = let e : 8 * (x % 1) + m ≡ m = omega arith in same x m (accessed 1 x x refl) l (rw e p)

-- a half of two bytes
half_low : (b h m : ℕ) → m < 8 → bit_at (b + 2 ^ 8 * h) m ≡ bit_at b m
half_low b h m l = let e : b + 2 ^ 8 * h ≡ h * 2 ^ 8 + b = omega arith in rw e (bit_at_cat_low h 8 b m l)

half_high : (b h m : ℕ) → b < 2 ^ 8 → 8 ≤ m → bit_at (b + 2 ^ 8 * h) m ≡ bit_at h (m - 8)
half_high b h m l n = let e : b + 2 ^ 8 * h ≡ h * 2 ^ 8 + b = omega arith in rw e (bit_at_cat_high h 8 b m l n)

half_same : (x m : ℕ) (P : ℕ → Type 0) (f g : ℕ → ℕ) → ((p : ℕ) → f p < 2 ^ 8) → ((p : ℕ) → g p < 2 ^ 8) → SameBytes 2 x P f g → m < 16 → P m → bit_at (half_at x f) m ≡ bit_at (half_at x g) m
half_same x m P f g hf hg same l p =
    let y : ℕ = x / 2 * 2 in
    elim (cases_lt m 8) [
      | inl b ↦
          let e : 8 * (y % 2) + m ≡ m = omega arith in
          half_low (f y) (f (y + 1)) m b ∙ same y m (accessed 2 x y (omega arith)) b (rw e p) ∙ sym (half_low (g y) (g (y + 1)) m b)
      | inr b ↦
          let e : 8 * ((y + 1) % 2) + (m - 8) ≡ m = omega arith in
          half_high (f y) (f (y + 1)) m (hf y) b ∙ same (y + 1) (m - 8) (accessed 2 x (y + 1) (omega arith)) (omega arith) (rw e p) ∙ sym (half_high (g y) (g (y + 1)) m (hg y) b)
    ]

-- a word of four bytes
as_bytes : (b : ℕ → ℕ) → word_of_bytes b ≡ from_le_bytes w32 (b 0 ∷ b 1 ∷ b 2 ∷ b 3 ∷ [])
as_bytes b = omega arith

word_bit : (b : ℕ → ℕ) (n k : ℕ) → ((i : ℕ) → b i < 2 ^ 8) → n < 4 → k < 8 → bit_at (word_of_bytes b) (8 * n + k) ≡ bit_at (b n) k
word_bit b n k h l m =
    ap (λ w. bit_at w (8 * n + k)) (as_bytes b)
    ∙ word_bits (b 0) (b 1) (b 2) (b 3) (h 0) (h 1) (h 2) (h 3) n k l m
    ∙ ap (λ v. bit_at v k) (each_of_four (λ i v. v ≡ b i) (b 0) (b 1) (b 2) (b 3) refl refl refl refl n l)

word_same : (x m : ℕ) (P : ℕ → Type 0) (f g : ℕ → ℕ) → ((p : ℕ) → f p < 2 ^ 8) → ((p : ℕ) → g p < 2 ^ 8) → SameBytes 4 x P f g → m < 32 → P m → bit_at (word_at x f) m ≡ bit_at (word_at x g) m
word_same x m P f g hf hg same l p =
    let y : ℕ = x / 4 * 4 in
    let e : 8 * (m / 8) + m % 8 ≡ m = omega arith in
    let i : 8 * ((y + m / 8) % 4) + m % 8 ≡ m = omega arith in
    let a = word_bit (λ n. f (y + n)) (m / 8) (m % 8) (λ n. hf (y + n)) (omega arith) (omega arith) in
    let b = word_bit (λ n. g (y + n)) (m / 8) (m % 8) (λ n. hg (y + n)) (omega arith) (omega arith) in
    let s : bit_at (f (y + m / 8)) (m % 8) ≡ bit_at (g (y + m / 8)) (m % 8) = same (y + m / 8) (m % 8) (accessed 4 x (y + m / 8) (omega arith)) (omega arith) (rw i p) in
    ap (bit_at (word_at x f)) (sym e) ∙ a ∙ s ∙ sym b ∙ ap (bit_at (word_at x g)) e

-- copies of the sign
extended_byte-low : (v j : ℕ) → j < 8 → bit_at (extended_byte v) j ≡ bit_at v j
extended_byte-low v j l =
    elim (cases_lt v (2 ^ 7)) [
      | inl b ↦ let t : ltb v (2 ^ 7) ≡ true = grind (arith, nat_tests) in rw t refl
      | inr b ↦
          let t : ltb v (2 ^ 7) ≡ false = grind (arith, nat_tests) in
          let e : v + (2 ^ 32 - 2 ^ 8) ≡ (2 ^ 24 - 1) * 2 ^ 8 + v = omega arith in
          rw (t, e) (bit_at_cat_low (2 ^ 24 - 1) 8 v j l)
    ]

extended_byte-high : (v j : ℕ) → v < 2 ^ 8 → 8 ≤ j → j < 32 → bit_at (extended_byte v) j ≡ bit_at v 7
extended_byte-high v j h l m =
    elim (cases_lt v (2 ^ 7)) [
      | inl b ↦
          let t : ltb v (2 ^ 7) ≡ true = grind (arith, nat_tests) in
          rw t (bit_at_above v 7 j b (omega arith) ∙ sym (bit_at_above v 7 7 b (omega arith)))
      | inr b ↦
          let t : ltb v (2 ^ 7) ≡ false = grind (arith, nat_tests) in
          let e : v + (2 ^ 32 - 2 ^ 8) ≡ (2 ^ 24 - 1) * 2 ^ 8 + v = omega arith in
          let top : bit_at v 7 ≡ 1 = omega arith in
          rw (t, e) (bit_at_cat_high (2 ^ 24 - 1) 8 v j h l ∙ bit_at_ones 24 (j - 8) (omega arith) ∙ sym top)
    ]

extended_half-low : (v j : ℕ) → j < 16 → bit_at (extended_half v) j ≡ bit_at v j
extended_half-low v j l =
    elim (cases_lt v (2 ^ 15)) [
      | inl b ↦ let t : ltb v (2 ^ 15) ≡ true = grind (arith, nat_tests) in rw t refl
      | inr b ↦
          let t : ltb v (2 ^ 15) ≡ false = grind (arith, nat_tests) in
          let e : v + (2 ^ 32 - 2 ^ 16) ≡ (2 ^ 16 - 1) * 2 ^ 16 + v = omega arith in
          rw (t, e) (bit_at_cat_low (2 ^ 16 - 1) 16 v j l)
    ]

extended_half-high : (v j : ℕ) → v < 2 ^ 16 → 16 ≤ j → j < 32 → bit_at (extended_half v) j ≡ bit_at v 15
extended_half-high v j h l m =
    elim (cases_lt v (2 ^ 15)) [
      | inl b ↦
          let t : ltb v (2 ^ 15) ≡ true = grind (arith, nat_tests) in
          rw t (bit_at_above v 15 j b (omega arith) ∙ sym (bit_at_above v 15 15 b (omega arith)))
      | inr b ↦
          let t : ltb v (2 ^ 15) ≡ false = grind (arith, nat_tests) in
          let e : v + (2 ^ 32 - 2 ^ 16) ≡ (2 ^ 16 - 1) * 2 ^ 16 + v = omega arith in
          let top : bit_at v 15 ≡ 1 = omega arith in
          rw (t, e) (bit_at_cat_high (2 ^ 16 - 1) 16 v j h l ∙ bit_at_ones 16 (j - 16) (omega arith) ∙ sym top)
    ]

pub same_loaded : (kind : LoadKind) (x j : ℕ) (f g : ℕ → ℕ) → ((p : ℕ) → f p < 2 ^ 8) → ((p : ℕ) → g p < 2 ^ 8) → j < 32 → ((p k : ℕ) → accesses (load_size kind) x p ≡ true → k < 8 → FromLoaded kind (8 * (p % load_size kind) + k) j → bit_at (f p) k ≡ bit_at (g p) k) → bit_at (loaded kind x f) j ≡ bit_at (loaded kind x g) j
unfolding loaded
same_loaded Lb x j f g hf hg l same =
    elim (cases_lt j 8) [
      | inl b ↦ extended_byte-low (f x) j b ∙ byte_same x j (λ k. FromLoaded Lb k j) f g same b (inl refl) ∙ sym (extended_byte-low (g x) j b)
      | inr b ↦ extended_byte-high (f x) j (hf x) b l ∙ byte_same x 7 (λ k. FromLoaded Lb k j) f g same (lit< tt) (inr (refl, omega arith)) ∙ sym (extended_byte-high (g x) j (hg x) b l)
    ]
same_loaded Lh x j f g hf hg l same =
    elim (cases_lt j 16) [
      | inl b ↦ extended_half-low (half_at x f) j b ∙ half_same x j (λ k. FromLoaded Lh k j) f g hf hg same b (inl refl) ∙ sym (extended_half-low (half_at x g) j b)
      | inr b ↦ extended_half-high (half_at x f) j (half_below x f hf) b l ∙ half_same x 15 (λ k. FromLoaded Lh k j) f g hf hg same (lit< tt) (inr (refl, omega arith)) ∙ sym (extended_half-high (half_at x g) j (half_below x g hg) b l)
    ]
same_loaded Lw x j f g hf hg l same = word_same x j (λ k. k ≡ j) f g hf hg same l refl
same_loaded Lbu x j f g hf hg l same =
    elim (cases_lt j 8) [
      | inl b ↦ byte_same x j (λ k. k ≡ j) f g same b refl
      | inr b ↦ bit_at_above (f x) 8 j (hf x) b ∙ sym (bit_at_above (g x) 8 j (hg x) b)
    ]
same_loaded Lhu x j f g hf hg l same =
    elim (cases_lt j 16) [
      | inl b ↦ half_same x j (λ k. k ≡ j) f g hf hg same b refl
      | inr b ↦ bit_at_above (half_at x f) 16 j (half_below x f hf) b ∙ sym (bit_at_above (half_at x g) 16 j (half_below x g hg) b)
    ]

-- a stored byte
pub same_byte_of : (b d n j : ℕ) → j < 8 → bit_at b (8 * n + j) ≡ bit_at d (8 * n + j) → bit_at (byte_of b n) j ≡ bit_at (byte_of d n) j
unfolding byte_of
same_byte_of b d n j l e =
    bit_at-mod (b / 2 ^ (8 * n)) 8 j l ∙ bit_at-shr b (8 * n) j ∙ e ∙ sym (bit_at-shr d (8 * n) j) ∙ sym (bit_at-mod (d / 2 ^ (8 * n)) 8 j l)
