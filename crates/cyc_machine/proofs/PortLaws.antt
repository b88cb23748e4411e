-- The laws of a flip for the port's latch.
use Rattle.std.specs.Prelude.{◌≡◌, ◌≢◌, ℕ, ◌<◌, Some, slice_get, refl}
use Rattle.bit_field.specs.Laws.{FlipLaws}
use Rattle.bit_field.specs.Layouts.{bit_count, flip}
use Rattle.bit_field.proofs.LayoutLaws.{IsMadeUp, laws_of_layout, number_of-flip, number_of-same}
use Rattle.cyc_machine.specs.PortBits.{IsFit, bit_of, flip_in, flipped, layout, value, width}
use Rattle.cyc_machine.specs.PortState.{PortState}
use Rattle.cyc_machine.specs.declared.port.PortField.{PortField}
use Rattle.cyc_machine.specs.declared.port.PortField.TheVariants.{Count, Owner}

number : PortField → ℕ
number Count = 0
number Owner = 1

each : (f : PortField) → slice_get layout.fields (number f) ≡ Some f
unfolding number
each Count = refl
each _ = refl

changes : (x : PortState) (f : PortField) (i : ℕ) → i < width f → value (flip_in x f i) f ≡ flip (value x f) i
changes x Owner i l = number_of-flip x.owner i l
changes x _ i l = refl

keeps : (x : PortState) (f g : PortField) (i : ℕ) → f ≢ g → value (flip_in x f i) g ≡ value x g
keeps x Count Count i ne = absurd (ne refl)
keeps x Owner Owner i ne = absurd (ne refl)
keeps x _ _ i ne = refl

same_fields : (x y : PortState) → ((f : PortField) → value x f ≡ value y f) → x ≡ y
same_fields x y same = λ j. record { count = same Count j; owner = number_of-same x.owner y.owner (same Owner) j }

made_up : IsMadeUp layout number
unfolding number
made_up = record { numbered = (refl, (refl, tt)); each = each; changes = changes; keeps = keeps; same = same_fields }

pub laws : FlipLaws IsFit (λ _. bit_count layout) bit_of flipped
laws = laws_of_layout layout number made_up
