-- The laws of a flip for EX/MEM.
use Rattle.std.specs.Prelude.{◌≡◌, ◌≢◌, ℕ, ◌<◌, Some, slice_get, refl}
use Rattle.bit_field.specs.Laws.{FlipLaws}
use Rattle.bit_field.specs.Layouts.{bit_count, flip}
use Rattle.bit_field.proofs.LayoutLaws.{IsMadeUp, laws_of_layout, number_of-flip, number_of-same}
use Rattle.pipe_latch.specs.ExecutedBits.{IsFit, bit_of, flip_in, flipped, layout, value, width}
use Rattle.pipe_latch.specs.Latches.{ExecutedLatch}
use Rattle.pipe_latch.specs.declared.ex_mem.ExMemField.{ExMemField}
use Rattle.pipe_latch.specs.declared.ex_mem.ExMemField.TheVariants.{Valid, Kind, Rd, X, Y, Cause}

number : ExMemField → ℕ
number Valid = 0
number Kind = 1
number Rd = 2
number X = 3
number Y = 4
number Cause = 5

each : (f : ExMemField) → slice_get layout.fields (number f) ≡ Some f
unfolding number
each Valid = refl
each _ = refl

changes : (m : ExecutedLatch) (f : ExMemField) (i : ℕ) → i < width f → value (flip_in m f i) f ≡ flip (value m f) i
changes m Valid i l = number_of-flip m.valid i l
changes m _ i l = refl

keeps : (m : ExecutedLatch) (f g : ExMemField) (i : ℕ) → f ≢ g → value (flip_in m f i) g ≡ value m g
keeps m Valid Valid i ne = absurd (ne refl)
keeps m Kind Kind i ne = absurd (ne refl)
keeps m Rd Rd i ne = absurd (ne refl)
keeps m X X i ne = absurd (ne refl)
keeps m Y Y i ne = absurd (ne refl)
keeps m Cause Cause i ne = absurd (ne refl)
keeps m _ _ i ne = refl

same_fields : (m n : ExecutedLatch) → ((f : ExMemField) → value m f ≡ value n f) → m ≡ n
same_fields m n same =
    λ j. record { valid = number_of-same m.valid n.valid (same Valid) j; kind = same Kind j; rd = same Rd j; x = same X j; y = same Y j; cause = same Cause j }

made_up : IsMadeUp layout number
unfolding number
made_up = record { numbered = (refl, (refl, (refl, (refl, (refl, (refl, tt)))))); each = each; changes = changes; keeps = keeps; same = same_fields }

pub laws : FlipLaws IsFit (λ _. bit_count layout) bit_of flipped
laws = laws_of_layout layout number made_up
