-- The laws of a flip for a slot of the store buffer.
use Rattle.std.specs.Prelude.{◌≡◌, ◌≢◌, ℕ, ◌<◌, Some, slice_get, refl}
use Rattle.bit_field.specs.Laws.{FlipLaws}
use Rattle.bit_field.specs.Layouts.{bit_count, flip}
use Rattle.bit_field.proofs.LayoutLaws.{IsMadeUp, laws_of_layout}
use Rattle.store_buf.specs.EntryBits.{IsFit, bit_of, flip_in, flipped, layout, value, width}
use Rattle.store_buf.specs.Entry.{Entry}
use Rattle.store_buf.specs.declared.pending.PendingField.{PendingField}
use Rattle.store_buf.specs.declared.pending.PendingField.TheVariants.{Mask, Addr, Value}

number : PendingField → ℕ
number Mask = 0
number Addr = 1
number Value = 2

each : (f : PendingField) → slice_get layout.fields (number f) ≡ Some f
unfolding number
each Mask = refl
each _ = refl

changes : (e : Entry) (f : PendingField) (i : ℕ) → i < width f → value (flip_in e f i) f ≡ flip (value e f) i
changes e Mask i l = refl
changes e _ i l = refl

keeps : (e : Entry) (f g : PendingField) (i : ℕ) → f ≢ g → value (flip_in e f i) g ≡ value e g
keeps e Mask Mask i ne = absurd (ne refl)
keeps e Addr Addr i ne = absurd (ne refl)
keeps e Value Value i ne = absurd (ne refl)
keeps e _ _ i ne = refl

same_fields : (e d : Entry) → ((f : PendingField) → value e f ≡ value d f) → e ≡ d
same_fields e d same = λ j. record { mask = same Mask j; addr = same Addr j; value = same Value j }

made_up : IsMadeUp layout number
unfolding number
made_up = record { numbered = (refl, (refl, (refl, tt))); each = each; changes = changes; keeps = keeps; same = same_fields }

pub laws : FlipLaws IsFit (λ _. bit_count layout) bit_of flipped
laws = laws_of_layout layout number made_up
