-- The bytes of the word that a store puts together, and the bits of a mask of lanes.
use Rattle.std.proofs.Common.{◌≡◌, ℕ, zero, suc, ◌-◌, ◌*◌, ◌/◌, ◌%◌, ◌^◌, ◌<◌, ◌==◌, cond, true, arith, ap, sym, ◌∙◌, refl, lit<, mul-one}
use Rattle.std.proofs.lemmas.Nat.{mod_below}
use Rattle.std.proofs.lemmas.Bool.Decides.{nat_tests}
use Rattle.std.specs.Int.{bit_at}
use Rattle.rv_table.proofs.Lanes.{word_mask}
use Rattle.rv_table.specs.Accesses.{accesses, byte_of, lane_mask, load_size, store_size, store_word, stored}
use Rattle.rv_table.specs.declared.operation.LoadKind.{LoadKind}
use Rattle.rv_table.specs.declared.operation.LoadKind.TheVariants.{Lb, Lh, Lw, Lbu, Lhu}
use Rattle.rv_table.specs.declared.operation.StoreKind.{StoreKind}
use Rattle.rv_table.specs.declared.operation.StoreKind.TheVariants.{Sb, Sh, Sw}

-- ---- a byte in lane r of a word, a half in the lanes from 2 * h on: byte l of it
byte_in_lane : (y r l : ℕ) → r < 4 → l < 4 → y % 2 ^ 8 * 2 ^ (8 * r) / 2 ^ (8 * l) % 2 ^ 8 ≡ cond (l == r) (y % 2 ^ 8) 0
byte_in_lane y zero zero hr hl = omega arith
byte_in_lane y zero (suc zero) hr hl = omega arith
byte_in_lane y zero (suc (suc zero)) hr hl = omega arith
byte_in_lane y zero (suc (suc (suc zero))) hr hl = omega arith
byte_in_lane y zero (suc (suc (suc (suc l)))) hr hl = absurd (omega arith)
byte_in_lane y (suc zero) zero hr hl = omega arith
byte_in_lane y (suc zero) (suc zero) hr hl = omega arith
byte_in_lane y (suc zero) (suc (suc zero)) hr hl = omega arith
byte_in_lane y (suc zero) (suc (suc (suc zero))) hr hl = omega arith
byte_in_lane y (suc zero) (suc (suc (suc (suc l)))) hr hl = absurd (omega arith)
byte_in_lane y (suc (suc zero)) zero hr hl = omega arith
byte_in_lane y (suc (suc zero)) (suc zero) hr hl = omega arith
byte_in_lane y (suc (suc zero)) (suc (suc zero)) hr hl = omega arith
byte_in_lane y (suc (suc zero)) (suc (suc (suc zero))) hr hl = omega arith
byte_in_lane y (suc (suc zero)) (suc (suc (suc (suc l)))) hr hl = absurd (omega arith)
byte_in_lane y (suc (suc (suc zero))) zero hr hl = omega arith
byte_in_lane y (suc (suc (suc zero))) (suc zero) hr hl = omega arith
byte_in_lane y (suc (suc (suc zero))) (suc (suc zero)) hr hl = omega arith
byte_in_lane y (suc (suc (suc zero))) (suc (suc (suc zero))) hr hl = omega arith
byte_in_lane y (suc (suc (suc zero))) (suc (suc (suc (suc l)))) hr hl = absurd (omega arith)
byte_in_lane y (suc (suc (suc (suc r)))) l hr hl = absurd (omega arith)

half_in_lanes : (y h l : ℕ) → h < 2 → l < 4 → y % 2 ^ 16 * 2 ^ (8 * (h * 2)) / 2 ^ (8 * l) % 2 ^ 8 ≡ cond (l / 2 == h) (y / 2 ^ (8 * (l % 2)) % 2 ^ 8) 0
half_in_lanes y zero zero hr hl = omega arith
half_in_lanes y zero (suc zero) hr hl = omega arith
half_in_lanes y zero (suc (suc zero)) hr hl = omega arith
half_in_lanes y zero (suc (suc (suc zero))) hr hl = omega arith
half_in_lanes y zero (suc (suc (suc (suc l)))) hr hl = absurd (omega arith)
half_in_lanes y (suc zero) zero hr hl = omega arith
half_in_lanes y (suc zero) (suc zero) hr hl = omega arith
half_in_lanes y (suc zero) (suc (suc zero)) hr hl = omega arith
half_in_lanes y (suc zero) (suc (suc (suc zero))) hr hl = omega arith
half_in_lanes y (suc zero) (suc (suc (suc (suc l)))) hr hl = absurd (omega arith)
half_in_lanes y (suc (suc h)) l hr hl = absurd (omega arith)

word_in_lanes : (y l : ℕ) → l < 4 → y % 2 ^ 32 / 2 ^ (8 * l) % 2 ^ 8 ≡ y / 2 ^ (8 * l) % 2 ^ 8
word_in_lanes y zero hl = omega arith
word_in_lanes y (suc zero) hl = omega arith
word_in_lanes y (suc (suc zero)) hl = omega arith
word_in_lanes y (suc (suc (suc zero))) hl = omega arith
word_in_lanes y (suc (suc (suc (suc l)))) hl = absurd (omega arith)

-- ---- their bits in a mask

byte_bit : (r l : ℕ) → r < 4 → l < 4 → bit_at ((2 ^ 1 - 1) * 2 ^ r) l ≡ cond (l == r) 1 0
byte_bit zero zero hr hl = refl
byte_bit zero (suc zero) hr hl = refl
byte_bit zero (suc (suc zero)) hr hl = refl
byte_bit zero (suc (suc (suc zero))) hr hl = refl
byte_bit zero (suc (suc (suc (suc l)))) hr hl = absurd (omega arith)
byte_bit (suc zero) zero hr hl = refl
byte_bit (suc zero) (suc zero) hr hl = refl
byte_bit (suc zero) (suc (suc zero)) hr hl = refl
byte_bit (suc zero) (suc (suc (suc zero))) hr hl = refl
byte_bit (suc zero) (suc (suc (suc (suc l)))) hr hl = absurd (omega arith)
byte_bit (suc (suc zero)) zero hr hl = refl
byte_bit (suc (suc zero)) (suc zero) hr hl = refl
byte_bit (suc (suc zero)) (suc (suc zero)) hr hl = refl
byte_bit (suc (suc zero)) (suc (suc (suc zero))) hr hl = refl
byte_bit (suc (suc zero)) (suc (suc (suc (suc l)))) hr hl = absurd (omega arith)
byte_bit (suc (suc (suc zero))) zero hr hl = refl
byte_bit (suc (suc (suc zero))) (suc zero) hr hl = refl
byte_bit (suc (suc (suc zero))) (suc (suc zero)) hr hl = refl
byte_bit (suc (suc (suc zero))) (suc (suc (suc zero))) hr hl = refl
byte_bit (suc (suc (suc zero))) (suc (suc (suc (suc l)))) hr hl = absurd (omega arith)
byte_bit (suc (suc (suc (suc r)))) l hr hl = absurd (omega arith)

half_bits : (h l : ℕ) → h < 2 → l < 4 → bit_at ((2 ^ 2 - 1) * 2 ^ (h * 2)) l ≡ cond (l / 2 == h) 1 0
half_bits zero zero hr hl = refl
half_bits zero (suc zero) hr hl = refl
half_bits zero (suc (suc zero)) hr hl = refl
half_bits zero (suc (suc (suc zero))) hr hl = refl
half_bits zero (suc (suc (suc (suc l)))) hr hl = absurd (omega arith)
half_bits (suc zero) zero hr hl = refl
half_bits (suc zero) (suc zero) hr hl = refl
half_bits (suc zero) (suc (suc zero)) hr hl = refl
half_bits (suc zero) (suc (suc (suc zero))) hr hl = refl
half_bits (suc zero) (suc (suc (suc (suc l)))) hr hl = absurd (omega arith)
half_bits (suc (suc h)) l hr hl = absurd (omega arith)

word_bits : (l : ℕ) → l < 4 → bit_at 15 l ≡ 1
word_bits zero hl = refl
word_bits (suc zero) hl = refl
word_bits (suc (suc zero)) hl = refl
word_bits (suc (suc (suc zero))) hl = refl
word_bits (suc (suc (suc (suc l)))) hl = absurd (omega arith)

-- ---- the places that are accessed, by their lanes

byte_test : (x p : ℕ) → p / 4 ≡ x / 4 → (p % 4 == x % 4) ≡ accesses 1 x p
unfolding accesses
byte_test x p h = grind (arith, nat_tests)

half_test : (x p : ℕ) → p / 4 ≡ x / 4 → (p % 4 / 2 == x % 4 / 2) ≡ accesses 2 x p
unfolding accesses
half_test x p h = grind (arith, nat_tests)

word_test : (x p : ℕ) → p / 4 ≡ x / 4 → true ≡ accesses 4 x p
unfolding accesses
word_test x p h = grind (arith, nat_tests)

-- byte p of the word that a store puts together: as after a store onto zeros
pub store_word-byte : (kind : StoreKind) (x y p : ℕ) → p / 4 ≡ x / 4 → byte_of (store_word kind x y) (p % 4) ≡ stored kind x y (λ q. 0) p
unfolding byte_of store_word stored
store_word-byte Sb x y p h =
    let lane : x % 4 / 1 * 1 ≡ x % 4 = omega arith in
    let none : p % 1 ≡ 0 = omega arith in
    let low : y % 2 ^ 8 ≡ y / 2 ^ (8 * 0) % 2 ^ 8 = omega arith in
    let first : y / 2 ^ (8 * 0) % 2 ^ 8 ≡ y / 2 ^ (8 * (p % 1)) % 2 ^ 8 = ap (λ n. y / 2 ^ (8 * n) % 2 ^ 8) (sym none) in
    ap (λ k. y % 2 ^ 8 * 2 ^ (8 * k) / 2 ^ (8 * (p % 4)) % 2 ^ 8) lane
    ∙ byte_in_lane y (x % 4) (p % 4) (mod_below x 4 (lit< tt)) (mod_below p 4 (lit< tt))
    ∙ ap (λ t. cond t (y % 2 ^ 8) 0) (byte_test x p h)
    ∙ ap (λ n. cond (accesses 1 x p) n 0) (low ∙ first)
store_word-byte Sh x y p h =
    let lane : p % 4 % 2 ≡ p % 2 = omega arith in
    half_in_lanes y (x % 4 / 2) (p % 4) (omega arith) (mod_below p 4 (lit< tt))
    ∙ ap (λ t. cond t (y / 2 ^ (8 * (p % 4 % 2)) % 2 ^ 8) 0) (half_test x p h)
    ∙ ap (λ n. cond (accesses 2 x p) (y / 2 ^ (8 * n) % 2 ^ 8) 0) lane
store_word-byte Sw x y p h =
    let lane : x % 4 / 4 ≡ 0 = omega arith in
    ap (λ k. y % 2 ^ 32 * 2 ^ (8 * (k * 4)) / 2 ^ (8 * (p % 4)) % 2 ^ 8) lane
    ∙ ap (λ v. v / 2 ^ (8 * (p % 4)) % 2 ^ 8) (mul-one (y % 2 ^ 32))
    ∙ word_in_lanes y (p % 4) (mod_below p 4 (lit< tt))
    ∙ ap (λ t. cond t (y / 2 ^ (8 * (p % 4)) % 2 ^ 8) 0) (word_test x p h)

-- bit p of the lanes' mask is set exactly where p is accessed
byte_mask_bit : (x p : ℕ) → p / 4 ≡ x / 4 → bit_at (lane_mask 1 x) (p % 4) ≡ cond (accesses 1 x p) 1 0
unfolding lane_mask
byte_mask_bit x p h =
    let lane : x % 4 / 1 * 1 ≡ x % 4 = omega arith in
    ap (λ k. bit_at ((2 ^ 1 - 1) * 2 ^ k) (p % 4)) lane
    ∙ byte_bit (x % 4) (p % 4) (mod_below x 4 (lit< tt)) (mod_below p 4 (lit< tt))
    ∙ ap (λ t. cond t 1 0) (byte_test x p h)

half_mask_bit : (x p : ℕ) → p / 4 ≡ x / 4 → bit_at (lane_mask 2 x) (p % 4) ≡ cond (accesses 2 x p) 1 0
unfolding lane_mask
half_mask_bit x p h = half_bits (x % 4 / 2) (p % 4) (omega arith) (mod_below p 4 (lit< tt)) ∙ ap (λ t. cond t 1 0) (half_test x p h)

word_mask_bit : (x p : ℕ) → p / 4 ≡ x / 4 → bit_at (lane_mask 4 x) (p % 4) ≡ cond (accesses 4 x p) 1 0
word_mask_bit x p h = ap (λ m. bit_at m (p % 4)) (word_mask x) ∙ word_bits (p % 4) (mod_below p 4 (lit< tt)) ∙ ap (λ t. cond t 1 0) (word_test x p h)

pub store_mask-bit : (kind : StoreKind) (x p : ℕ) → p / 4 ≡ x / 4 → bit_at (lane_mask (store_size kind) x) (p % 4) ≡ cond (accesses (store_size kind) x p) 1 0
store_mask-bit Sb x p h = byte_mask_bit x p h
store_mask-bit Sh x p h = half_mask_bit x p h
store_mask-bit Sw x p h = word_mask_bit x p h

pub load_mask-bit : (kind : LoadKind) (x p : ℕ) → p / 4 ≡ x / 4 → bit_at (lane_mask (load_size kind) x) (p % 4) ≡ cond (accesses (load_size kind) x p) 1 0
load_mask-bit Lb x p h = byte_mask_bit x p h
load_mask-bit Lh x p h = half_mask_bit x p h
load_mask-bit Lw x p h = word_mask_bit x p h
load_mask-bit Lbu x p h = byte_mask_bit x p h
load_mask-bit Lhu x p h = half_mask_bit x p h
