-- The highest 1 of a number, and the mask of the bits that are not above it.
use Rattle.std.proofs.Common.{◌≡◌, ◌↔◌, ℕ, suc, ◌+◌, ◌-◌, ◌/◌, ◌%◌, ◌^◌, ◌<◌, ◌≤◌, ap, arith, inl, inr}
use Rattle.std.specs.Int.{bit_at}
use lib.Count.{count_leading_zeros}
use Rattle.std.proofs.Math.Nat.{div-eq_of_lt-le, pow-suc}
use Rattle.std.proofs.lemmas.Bool.{cases_lt}
use Rattle.std.proofs.lemmas.Nat.{leading_top}
use Rattle.std.proofs.lemmas.Nat.Bits.{bit_at_above, bit_at_ones, bit_at_ones_above, bit_at-zero, ones_shr}

-- a number from 2 ^ j below 2 ^ (j + 1) has bit j
top_bit : (m j : ℕ) → 2 ^ j ≤ m → m < 2 ^ suc j → bit_at m j ≡ 1
top_bit m j l h = ap (λ (q : ℕ). q % 2) (div-eq_of_lt-le {k = 1} (2 ^ j) {m = m} (omega arith) (omega (arith, pow-suc 2 j)))

-- j is the place of the highest 1 of m
pub record IsHighest (m j : ℕ) : Type 0 where
  pub place : count_leading_zeros 32 m + suc j ≡ 32
  pub is_one : bit_at m j ≡ 1
  pub none_above : (i : ℕ) → j < i → bit_at m i ≡ 0

pub highest : (m : ℕ) → 0 < m → m < 2 ^ 32 → (j : ℕ) × IsHighest m j
highest m pos h =
    let (j, e, l, u) = leading_top 32 m pos h in
    (j, record { place = e; is_one = top_bit m j l u; none_above = λ i k. bit_at_above m (suc j) i u (omega arith) })

pub nonzero_bit : (m : ℕ) → 0 < m → m < 2 ^ 32 → (j : ℕ) × (j < 32) × (bit_at m j ≡ 1)
nonzero_bit m pos h = let (j, top) = highest m pos h in (j, omega arith, top.is_one)

pub bit_nonzero : (m j : ℕ) → bit_at m j ≡ 1 → 0 < m
bit_nonzero m j one =
    elim (cases_lt 0 m) [
      | inl l ↦ l
      | inr l ↦ let z : m ≡ 0 = omega arith in let e : bit_at m j ≡ 0 = rw z (bit_at-zero j) in absurd (omega arith)
    ]

-- all ones shifted right by the leading zeros has the bits up to the highest 1
pub bit_at-below_highest : (m k : ℕ) → 0 < m → m < 2 ^ 32
    → (bit_at ((2 ^ 32 - 1) / 2 ^ count_leading_zeros 32 m) k ≡ 1) ↔ ((j : ℕ) × (k ≤ j) × (bit_at m j ≡ 1))
bit_at-below_highest m k pos h =
    let (j, top) = highest m pos h in
    let e : 32 - count_leading_zeros 32 m ≡ suc j = omega (arith, top.place) in
    rw (ones_shr 32 (count_leading_zeros 32 m) (omega (arith, top.place)), e) (mask_to m k j top, mask_from m k j top)
  where
    mask_to : (m k j : ℕ) → IsHighest m j → bit_at (2 ^ suc j - 1) k ≡ 1 → (i : ℕ) × (k ≤ i) × (bit_at m i ≡ 1)
    mask_to m k j top one =
        elim (cases_lt k (suc j)) [
          | inl l ↦ (j, omega arith, top.is_one)
          | inr l ↦ absurd (omega (arith, bit_at_ones_above (suc j) k l))
        ]

    mask_from : (m k j : ℕ) → IsHighest m j → (i : ℕ) × (k ≤ i) × (bit_at m i ≡ 1) → bit_at (2 ^ suc j - 1) k ≡ 1
    mask_from m k j top (i, l, one) =
        elim (cases_lt j i) [
          | inl n ↦ absurd (omega (arith, top.none_above i n))
          | inr n ↦ bit_at_ones (suc j) k (omega arith)
        ]
