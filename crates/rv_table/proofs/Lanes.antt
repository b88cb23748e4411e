-- The lanes of a word, and what a store puts into them.
use Rattle.std.proofs.Common.{◌≡◌, ℕ, zero, suc, ◌-◌, ◌*◌, ◌/◌, ◌%◌, ◌^◌, ◌<◌, ◌≢◌, arith, ap, sym, ◌∙◌, refl, lit<}
use Rattle.std.proofs.lemmas.Nat.{shl_whole, mod_below}
use Rattle.rv_table.specs.Accesses.{lane_mask, store_word}
use Rattle.rv_table.specs.declared.operation.StoreKind.TheVariants.{Sb, Sh, Sw}

-- ---- masks

below_16 : (r : ℕ) → r < 4 → (1 * 2 ^ r) % 256 < 16
below_16 zero h = lit< tt
below_16 (suc zero) h = lit< tt
below_16 (suc (suc zero)) h = lit< tt
below_16 (suc (suc (suc zero))) h = lit< tt
below_16 (suc (suc (suc (suc r)))) h = absurd (omega arith)

pub byte_mask_below : (x : ℕ) → (1 * 2 ^ (x % 4)) % 256 < 16
byte_mask_below x = below_16 (x % 4) (mod_below x 4 (lit< tt))

positive : (r : ℕ) → r < 4 → 0 < (1 * 2 ^ r) % 256
positive zero h = lit< tt
positive (suc zero) h = lit< tt
positive (suc (suc zero)) h = lit< tt
positive (suc (suc (suc zero))) h = lit< tt
positive (suc (suc (suc (suc r)))) h = absurd (omega arith)

pub byte_mask_positive : (x : ℕ) → 0 < (1 * 2 ^ (x % 4)) % 256
byte_mask_positive x = positive (x % 4) (mod_below x 4 (lit< tt))

mask_by : (r : ℕ) → r < 4 → (1 * 2 ^ r) % 256 ≡ (2 ^ 1 - 1) * 2 ^ (r / 1 * 1)
mask_by zero h = refl
mask_by (suc zero) h = refl
mask_by (suc (suc zero)) h = refl
mask_by (suc (suc (suc zero))) h = refl
mask_by (suc (suc (suc (suc r)))) h = absurd (omega arith)

pub byte_mask : (x : ℕ) → (1 * 2 ^ (x % 4)) % 256 ≡ lane_mask 1 x
unfolding lane_mask
byte_mask x = mask_by (x % 4) (mod_below x 4 (lit< tt))

pub low_half_mask : (x : ℕ) → x / 2 % 2 ≡ 0 → lane_mask 2 x ≡ 3
unfolding lane_mask
low_half_mask x h =
    let e : x % 4 / 2 ≡ 0 = omega arith in
    ap (λ k. (2 ^ 2 - 1) * 2 ^ (k * 2)) e

pub high_half_mask : (x : ℕ) → x / 2 % 2 ≢ 0 → lane_mask 2 x ≡ 12
unfolding lane_mask
high_half_mask x h =
    let e : x % 4 / 2 ≡ 1 = omega arith in
    ap (λ k. (2 ^ 2 - 1) * 2 ^ (k * 2)) e

pub word_mask : (x : ℕ) → lane_mask 4 x ≡ 15
unfolding lane_mask
word_mask x =
    let e : x % 4 / 4 ≡ 0 = omega arith in
    ap (λ k. (2 ^ 4 - 1) * 2 ^ (k * 4)) e

pub ruleset masks = (byte_mask_below, byte_mask_positive, byte_mask, low_half_mask, high_half_mask, word_mask)

-- ---- the words that stores put together

pub byte_stored : (x y : ℕ) → (y % 256 * 2 ^ (8 * (x % 4))) % 2 ^ 32 ≡ store_word Sb x y
unfolding store_word
byte_stored x y =
    let e : x % 4 / 1 * 1 ≡ x % 4 = omega arith in
    shl_whole (y % 256) 8 (8 * (x % 4)) 32 (mod_below y 256 (lit< tt)) (omega arith)
    ∙ ap (λ k. y % 256 * 2 ^ (8 * k)) (sym e)

pub half_stored : (x y : ℕ) → (y % 65536 * 2 ^ (16 * (x / 2 % 2))) % 2 ^ 32 ≡ store_word Sh x y
unfolding store_word
half_stored x y =
    let e : 16 * (x / 2 % 2) ≡ 8 * (x % 4 / 2 * 2) = omega arith in
    shl_whole (y % 65536) 16 (16 * (x / 2 % 2)) 32 (mod_below y 65536 (lit< tt)) (omega arith)
    ∙ ap (λ k. y % 65536 * 2 ^ k) e

pub word_stored : (x y : ℕ) → y < 2 ^ 32 → store_word Sw x y ≡ y
unfolding store_word
word_stored x y h =
    let e : x % 4 / 4 ≡ 0 = omega arith in
    ap (λ k. y % 2 ^ 32 * 2 ^ (8 * (k * 4))) e ∙ omega arith

pub ruleset stored_words = (byte_stored, half_stored, word_stored)
