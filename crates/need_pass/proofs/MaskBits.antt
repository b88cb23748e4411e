-- The masks of the operands' bits, from the mask of the result.
use Rattle.std.proofs.Common.{◌≡◌, ◌≢◌, ◌⊎◌, ℕ, ◌+◌, ◌-◌, ◌*◌, ◌/◌, ◌%◌, ◌^◌, ◌<◌, ◌≤◌, refl, sym, ◌∙◌, arith, inl, inr}
use Rattle.std.specs.Int.{bit_at, bit_not, w32}
use Rattle.std.specs.Prelude.{bit_and, bit_or}
use lib.Count.{count_leading_zeros}
use Rattle.std.specs.Int.Count.{leading_of_zero}
use Rattle.std.proofs.Math.Nat.{div-le_self}
use Rattle.std.proofs.lemmas.Bool.{cases_lt, cases_eq}
use Rattle.std.proofs.lemmas.Nat.Bits.{bit_at-lt, bit_at-zero, bit_at_and, bit_at_or, bit_at_not, bit_at_ones, bit_at_ones_above, bit_at_above, bit_at-pow_same, bit_at-pow_other, bit_at_mask_inside, bit_at_mask_below}
use Rattle.bit_field.proofs.Highest.{highest, nonzero_bit, bit_nonzero, bit_at-below_highest}
use Rattle.bit_field.proofs.Low.{bit_at-mod, bit_at-shr, bit_at-shl_low, bit_at-shl_high}
use Rattle.need_pass.specs.Masks.{IsMaskOf, HasOne}

-- a bit of a number of 32 bits is one of the 32
pub bit_below : (m j : ℕ) → m < 2 ^ 32 → bit_at m j ≡ 1 → j < 32
bit_below m j h one =
    elim (cases_lt j 32) [ inl l ↦ l | inr l ↦ absurd (omega (arith, bit_at_above m 32 j h l)) ]

pub mask_none : (P : ℕ → ℕ → Type 0) → IsMaskOf 0 (λ k. HasOne 0 (P k))
mask_none P k l = (λ one. absurd (omega (arith, bit_at-zero k)), λ (j, m, one, p). absurd (omega (arith, bit_at-zero j)))

-- the same set of bits for each k of the result's mask that isn't 0
pub mask_any : (m n : ℕ) (P : ℕ → Type 0) → 0 < m → m < 2 ^ 32 → IsMaskOf n P → IsMaskOf n (λ k. HasOne m (λ j. P k))
mask_any m n P pos h is k l =
    (λ one. let (j, b, o) = nonzero_bit m pos h in (j, b, o, (is k l).0 one), λ (j, b, o, p). (is k l).1 p)

pub mask_full : IsMaskOf (2 ^ 32 - 1) (λ k. Unit {0})
mask_full k l = (λ one. tt, λ u. bit_at_ones 32 k l)

pub mask_low : (n : ℕ) → IsMaskOf (2 ^ n - 1) (λ k. k < n)
mask_low n k l =
    (λ one. elim (cases_lt k n) [ inl b ↦ b | inr b ↦ absurd (omega (arith, bit_at_ones_above n k b)) ], λ b. bit_at_ones n k b)

pub mask_up_to : (m : ℕ) → 0 < m → m < 2 ^ 32 → IsMaskOf ((2 ^ 32 - 1) / 2 ^ count_leading_zeros 32 m) (λ k. HasOne m (λ j. k ≤ j))
mask_up_to m pos h k l =
    let is = bit_at-below_highest m k pos h in
    (λ one. let (j, b, o) = is.0 one in (j, bit_below m j h o, o, b), λ (j, b, o, p). is.1 (j, p, o))

pub mask_where : (m n : ℕ) (P : ℕ → Type 0) → IsMaskOf n P → IsMaskOf (bit_and m n) (λ k. HasOne m (λ j. (k ≡ j) × P k))
mask_where m n P is k l = (
  λ one. (k, l, omega (arith, bit_at_and m n k, bit_at-lt m k, bit_at-lt n k), (refl, (is k l).0 (omega (arith, bit_at_and m n k, bit_at-lt m k, bit_at-lt n k)))),
  λ (j, b, o, p). let e : bit_at n k ≡ 1 = (is k l).1 p.1 in let f : bit_at m k ≡ 1 = rw p.0 o in omega (arith, bit_at_and m n k),
)

pub mask_same : (m : ℕ) → IsMaskOf m (λ k. HasOne m (λ j. k ≡ j))
mask_same m k l = (λ one. (k, l, one, refl), λ (j, b, o, p). rw p o)

pub mask_bits : (n : ℕ) → IsMaskOf n (λ k. bit_at n k ≡ 1)
mask_bits n k l = (λ one. one, λ one. one)

pub mask_not : (n : ℕ) → n < 2 ^ 32 → IsMaskOf (bit_not w32 n) (λ k. bit_at n k ≡ 0)
mask_not n h k l =
    (λ one. omega (arith, bit_at_not w32 n k h l, bit_at-lt n k), λ z. omega (arith, bit_at_not w32 n k h l))

pub mask_or : (m n : ℕ) (P Q : ℕ → Type 0) → IsMaskOf m P → IsMaskOf n Q → IsMaskOf (bit_or m n) (λ k. P k ⊎ Q k)
mask_or m n P Q p q k l = (
  λ one.
      elim (cases_eq (bit_at m k) 1) [
        | inl e ↦ inl ((p k l).0 e)
        | inr e ↦ inr ((q k l).0 (omega (arith, bit_at_or m n k, bit_at-lt m k, bit_at-lt n k)))
      ],
  λ s.
      elim s [
        | inl x ↦ let e = (p k l).1 x in omega (arith, bit_at_or m n k, bit_at-lt m k, bit_at-lt n k)
        | inr x ↦ let e = (q k l).1 x in omega (arith, bit_at_or m n k, bit_at-lt m k, bit_at-lt n k)
      ],
)

pub mask_left : (m n : ℕ) → m < 2 ^ 32 → IsMaskOf (m / 2 ^ n) (λ k. HasOne m (λ j. j ≡ k + n))
mask_left m n h k l = (
  λ one.
      let e : bit_at m (n + k) ≡ 1 = sym (bit_at-shr m n k) ∙ one in
      (n + k, bit_below m (n + k) h e, e, omega arith),
  λ (j, b, o, p). let e : n + k ≡ j = omega arith in bit_at-shr m n k ∙ rw e o,
)

pub mask_right : (m n : ℕ) → IsMaskOf (m * 2 ^ n % 2 ^ 32) (λ k. HasOne m (λ j. k ≡ j + n))
mask_right m n k l = (
  λ one.
      let e : bit_at (m * 2 ^ n) k ≡ 1 = sym (bit_at-mod (m * 2 ^ n) 32 k l) ∙ one in
      elim (cases_lt k n) [
        | inl b ↦ absurd (omega (arith, bit_at-shl_low m n k b))
        | inr b ↦ (k - n, omega arith, sym (bit_at-shl_high m n k b) ∙ e, omega arith)
      ],
  λ (j, b, o, p).
      let e : k - n ≡ j = omega arith in
      let g : bit_at m (k - n) ≡ 1 = rw e o in
      bit_at-mod (m * 2 ^ n) 32 k l ∙ bit_at-shl_high m n k (omega arith) ∙ g,
)

-- A bit of the mask in reach of a shift's sign copies: the mask has fewer leading zeros than the amount.
pub mask_sign : (m n : ℕ) → m < 2 ^ 32 → n < 32 → count_leading_zeros 32 m < n → IsMaskOf (2 ^ 31) (λ k. HasOne m (λ j. (k ≡ 31) × (31 < j + n)))
mask_sign m n h b z k l = (
  λ one.
      let pos : 0 < m = elim (cases_lt 0 m) [ inl p ↦ p | inr p ↦ absurd (no_zeros m n p b z) ] in
      let (j, top) = highest m pos h in
      let e : k ≡ 31 = elim (cases_eq k 31) [ inl q ↦ q | inr q ↦ absurd (omega (arith, bit_at-pow_other 31 k q)) ] in
      (j, bit_below m j h top.is_one, top.is_one, (e, omega (arith, top.place))),
  λ (j, a, o, p). rw p.0 (bit_at-pow_same 31),
)
  where
    no_zeros : (m n : ℕ) → m ≤ 0 → n < 32 → count_leading_zeros 32 m < n → ⊥
    no_zeros m n p b z = let e : m ≡ 0 = omega arith in omega (arith, rw (e, leading_of_zero 32) at z)

pub mask_no_sign : (m n : ℕ) → m < 2 ^ 32 → n ≤ count_leading_zeros 32 m → IsMaskOf 0 (λ k. HasOne m (λ j. (k ≡ 31) × (31 < j + n)))
mask_no_sign m n h z k l = (
  λ one. absurd (omega (arith, bit_at-zero k)),
  λ (j, a, o, p).
      let (t, top) = highest m (bit_nonzero m j o) h in
      elim (cases_lt t j) [
        | inl q ↦ absurd (omega (arith, top.none_above j q))
        | inr q ↦ absurd (omega (arith, top.place))
      ],
)

-- one of two links, by the union of the masks
pub has_either : (m : ℕ) (P Q : ℕ → ℕ → Type 0) (r : ℕ) → IsMaskOf r (λ k. HasOne m (P k) ⊎ HasOne m (Q k)) → IsMaskOf r (λ k. HasOne m (λ j. P k j ⊎ Q k j))
has_either m P Q r is k l = (
  λ one. elim ((is k l).0 one) [ inl (j, b, o, p) ↦ (j, b, o, inl p) | inr (j, b, o, p) ↦ (j, b, o, inr p) ],
  λ (j, b, o, s). elim s [ inl p ↦ (is k l).1 (inl (j, b, o, p)) | inr p ↦ (is k l).1 (inr (j, b, o, p)) ],
)

pub mask_either : (m x y : ℕ) (P Q : ℕ → ℕ → Type 0) → IsMaskOf x (λ k. HasOne m (P k)) → IsMaskOf y (λ k. HasOne m (Q k)) → IsMaskOf (bit_or x y) (λ k. HasOne m (λ j. P k j ⊎ Q k j))
mask_either m x y P Q p q = has_either m P Q (bit_or x y) (mask_or x y (λ k. HasOne m (P k)) (λ k. HasOne m (Q k)) p q)

-- a sign bit that a bit above it needs
pub mask_sign_bit : (m s : ℕ) → m < 2 ^ 32 → s < 31 → m / 2 ^ (s + 1) ≢ 0 → IsMaskOf (2 ^ s) (λ k. HasOne m (λ j. (k ≡ s) × (s < j)))
mask_sign_bit m s h b z k l = (
  λ one.
      let e : k ≡ s = elim (cases_eq k s) [ inl q ↦ q | inr q ↦ absurd (omega (arith, bit_at-pow_other s k q)) ] in
      let (j, c, o) = nonzero_bit (m / 2 ^ (s + 1)) (omega arith) (omega (arith, div-le_self m (2 ^ (s + 1)))) in
      let f : bit_at m (s + 1 + j) ≡ 1 = sym (bit_at-shr m (s + 1) j) ∙ o in
      (s + 1 + j, bit_below m (s + 1 + j) h f, f, (e, omega arith)),
  λ (j, a, o, p). rw p.0 (bit_at-pow_same s),
)

pub mask_no_sign_bit : (m s : ℕ) → m / 2 ^ (s + 1) ≡ 0 → IsMaskOf 0 (λ k. HasOne m (λ j. (k ≡ s) × (s < j)))
mask_no_sign_bit m s z k l = (
  λ one. absurd (omega (arith, bit_at-zero k)),
  λ (j, a, o, p).
      let e : s + 1 + (j - (s + 1)) ≡ j = omega arith in
      let f : bit_at (m / 2 ^ (s + 1)) (j - (s + 1)) ≡ 1 = bit_at-shr m (s + 1) (j - (s + 1)) ∙ rw e o in
      absurd (omega (arith, rw z at f, bit_at-zero (j - (s + 1)))),
)

pub mask_low_where : (n : ℕ) (P : Type 0) → P → IsMaskOf (2 ^ n - 1) (λ k. (k < n) × P)
mask_low_where n P p k l = (λ one. ((mask_low n k l).0 one, p), λ (b, q). (mask_low n k l).1 b)

-- all bits, and all but the lowest
pub mask_odd : (P : Type 0) → P → IsMaskOf (2 ^ 32 - 1) (λ k. (0 < k) ⊎ P)
mask_odd P p k l = (λ one. inr p, λ s. bit_at_ones 32 k l)

pub mask_even : (P : Type 0) → (P → ⊥) → IsMaskOf (2 ^ 32 - 2 ^ 1) (λ k. (0 < k) ⊎ P)
mask_even P never k l = (
  λ one. elim (cases_lt 0 k) [ inl b ↦ inl b | inr b ↦ absurd (omega (arith, bit_at_mask_below 1 32 k (omega arith))) ],
  λ s. elim s [ inl b ↦ bit_at_mask_inside 1 32 k (omega arith) l | inr p ↦ absurd (never p) ],
)
