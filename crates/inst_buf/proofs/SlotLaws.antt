-- The laws of a flip for a slot of the instruction buffer.
use Rattle.std.specs.Prelude.{◌≡◌, ◌≢◌, ℕ, ◌<◌, Some, slice_get, refl}
use Rattle.bit_field.specs.Laws.{FlipLaws}
use Rattle.bit_field.specs.Layouts.{bit_count, flip}
use Rattle.bit_field.proofs.LayoutLaws.{IsMadeUp, laws_of_layout, number_of-flip, number_of-same}
use Rattle.inst_buf.specs.EntryBits.{IsFit, bit_of, flip_in, flipped, layout, value, width}
use Rattle.inst_buf.specs.Entry.{Entry}
use Rattle.inst_buf.specs.declared.slots.SlotField.{SlotField}
use Rattle.inst_buf.specs.declared.slots.SlotField.TheVariants.{Valid, Fault, Pc, Word}

number : SlotField → ℕ
number Valid = 0
number Fault = 1
number Pc = 2
number Word = 3

each : (f : SlotField) → slice_get layout.fields (number f) ≡ Some f
unfolding number
each Valid = refl
each _ = refl

changes : (x : Entry) (f : SlotField) (i : ℕ) → i < width f → value (flip_in x f i) f ≡ flip (value x f) i
changes x Valid i l = number_of-flip x.valid i l
changes x Fault i l = number_of-flip x.fault i l
changes x _ i l = refl

keeps : (x : Entry) (f g : SlotField) (i : ℕ) → f ≢ g → value (flip_in x f i) g ≡ value x g
keeps x Valid Valid i ne = absurd (ne refl)
keeps x Fault Fault i ne = absurd (ne refl)
keeps x Pc Pc i ne = absurd (ne refl)
keeps x Word Word i ne = absurd (ne refl)
keeps x _ _ i ne = refl

same_fields : (x y : Entry) → ((f : SlotField) → value x f ≡ value y f) → x ≡ y
same_fields x y same =
    λ j. record {
      valid = number_of-same x.valid y.valid (same Valid) j;
      fault = number_of-same x.fault y.fault (same Fault) j;
      pc = same Pc j;
      word = same Word j;
    }

made_up : IsMadeUp layout number
unfolding number
made_up = record { numbered = (refl, (refl, (refl, (refl, tt)))); each = each; changes = changes; keeps = keeps; same = same_fields }

pub laws : FlipLaws IsFit (λ _. bit_count layout) bit_of flipped
laws = laws_of_layout layout number made_up
