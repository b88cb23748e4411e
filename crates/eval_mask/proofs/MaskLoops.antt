-- A mask, bit by bit.
use Rattle.std.proofs.Common.{ℕ, ◌+◌, ◌*◌, ◌%◌, ◌^◌, ◌<◌, arith, inl, inr}
use Rattle.std.specs.Prelude.{bit_or}
use Rattle.std.proofs.lemmas.Bool.{cases_eq}
use Rattle.std.proofs.lemmas.Nat.{one_shl}
use Rattle.std.proofs.lemmas.Nat.Bits.{bit_at-lt, bit_at-zero, bit_at_or, bit_at-pow_same, bit_at-pow_other}
use Rattle.eval_mask.specs.Cases.{IsMaskBelow}
use Rattle.eval_mask.specs.LatchMasks.{HasBits}

pub mask_start : (P : ℕ → Type 0) → IsMaskBelow 0 P 0
mask_start P = record { bits = λ k. (λ one. absurd (omega (arith, bit_at-zero k)), λ h. absurd (omega (arith, h.0))) }

with_bit : (n mask : ℕ) (P : ℕ → Type 0) → IsMaskBelow n P mask → P n → IsMaskBelow (n + 1) P (bit_or mask (2 ^ n))
with_bit n mask P is holds = record {
  bits =
      λ k. (
        λ one.
            elim (cases_eq k n) [
              | inl e ↦ (omega arith, rw e holds)
              | inr ne ↦
                  let below = (is.bits k).0 (omega (arith, bit_at_or mask (2 ^ n) k, bit_at-pow_other n k ne, bit_at-lt mask k)) in
                  (omega (arith, below.0), below.1)
            ],
        λ h.
            elim (cases_eq k n) [
              | inl e ↦ rw e (omega (arith, bit_at_or mask (2 ^ n) n, bit_at-pow_same n, bit_at-lt mask n))
              | inr ne ↦
                  let set = (is.bits k).1 (omega (arith, h.0), h.1) in
                  omega (arith, bit_at_or mask (2 ^ n) k, bit_at-pow_other n k ne)
            ],
      );
}

-- the bit as the program makes it, at b bits
pub mask_set : (b n mask : ℕ) (P : ℕ → Type 0) → n < b → IsMaskBelow n P mask → P n → IsMaskBelow (n + 1) P (bit_or mask (1 * 2 ^ n % 2 ^ b))
mask_set b n mask P l is holds = rw (one_shl n b l) (with_bit n mask P is holds)

pub mask_kept : (n mask : ℕ) (P : ℕ → Type 0) → IsMaskBelow n P mask → (P n → ⊥) → IsMaskBelow (n + 1) P mask
mask_kept n mask P is never = record {
  bits =
      λ k. (
        λ one. let below = (is.bits k).0 one in (omega (arith, below.0), below.1),
        λ h.
            elim (cases_eq k n) [
              | inl e ↦ absurd (never (rw e at (h.1)))
              | inr ne ↦ (is.bits k).1 (omega (arith, h.0), h.1)
            ],
      );
}

pub mask_done : (n mask : ℕ) (P : ℕ → Type 0) → IsMaskBelow n P mask → HasBits n P mask
mask_done n mask P is = record { bits = λ k l. (λ one. ((is.bits k).0 one).1, λ p. (is.bits k).1 (l, p)) }

pub ruleset mask_steps = (mask_start, mask_done)
