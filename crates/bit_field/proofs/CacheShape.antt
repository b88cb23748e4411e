-- Facts on the shape of the data cache.
use Rattle.std.proofs.Common.{◌≡◌, ℕ, ◌+◌, ◌/◌, ◌^◌, ◌<◌, refl, arith, inl, inr}
use Rattle.bit_field.specs.declared.shapes.Shape.{Shape}
use Rattle.bit_field.specs.Shapes.{IsShape, plain, index_bits, tag_bits}

pub plain_is_shape : IsShape plain
plain_is_shape = record { mib = (omega arith, omega arith); sets = inr (inl refl); ways = inr (inl refl) }

-- the number of sets is the power of two of its logarithm, and with the tag's bits those are a line's 28
pub index_bits-pow : (s : Shape) → IsShape s → (2 ^ index_bits s.sets ≡ s.sets) × (index_bits s.sets + tag_bits s ≡ 28)
index_bits-pow s h =
    elim h.sets [
      | inl e ↦ rw e (refl, refl)
      | inr r ↦ elim r [ inl e ↦ rw e (refl, refl) | inr q ↦ elim q [ inl e ↦ rw e (refl, refl) | inr e ↦ rw e (refl, refl) ] ]
    ]

-- the tag of a line is below its width
pub tag_below : (s : Shape) (line : ℕ) → IsShape s → line < 2 ^ 28 → line / s.sets < 2 ^ tag_bits s
tag_below s line h l =
    elim h.sets [
      | inl e ↦ rw e (omega arith)
      | inr r ↦ elim r [ inl e ↦ rw e (omega arith) | inr q ↦ elim q [ inl e ↦ rw e (omega arith) | inr e ↦ rw e (omega arith) ] ]
    ]
