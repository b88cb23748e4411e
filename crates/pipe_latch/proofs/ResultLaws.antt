-- The laws of a flip for MEM/WB.
use Rattle.std.specs.Prelude.{◌≡◌, ◌≢◌, ℕ, ◌<◌, Some, slice_get, refl}
use Rattle.bit_field.specs.Laws.{FlipLaws}
use Rattle.bit_field.specs.Layouts.{bit_count, flip}
use Rattle.bit_field.proofs.LayoutLaws.{IsMadeUp, laws_of_layout}
use Rattle.pipe_latch.specs.ResultBits.{IsFit, bit_of, flip_in, flipped, layout, value, width}
use Rattle.pipe_latch.specs.Latches.{ResultLatch}
use Rattle.pipe_latch.specs.declared.mem_wb.MemWbField.{MemWbField}
use Rattle.pipe_latch.specs.declared.mem_wb.MemWbField.TheVariants.{Rd, Value}

number : MemWbField → ℕ
number Rd = 0
number Value = 1

each : (f : MemWbField) → slice_get layout.fields (number f) ≡ Some f
unfolding number
each Rd = refl
each _ = refl

changes : (w : ResultLatch) (f : MemWbField) (i : ℕ) → i < width f → value (flip_in w f i) f ≡ flip (value w f) i
changes w Rd i l = refl
changes w _ i l = refl

keeps : (w : ResultLatch) (f g : MemWbField) (i : ℕ) → f ≢ g → value (flip_in w f i) g ≡ value w g
keeps w Rd Rd i ne = absurd (ne refl)
keeps w Value Value i ne = absurd (ne refl)
keeps w _ _ i ne = refl

same_fields : (w v : ResultLatch) → ((f : MemWbField) → value w f ≡ value v f) → w ≡ v
same_fields w v same = λ j. record { rd = same Rd j; value = same Value j }

made_up : IsMadeUp layout number
unfolding number
made_up = record { numbered = (refl, (refl, tt)); each = each; changes = changes; keeps = keeps; same = same_fields }

pub laws : FlipLaws IsFit (λ _. bit_count layout) bit_of flipped
laws = laws_of_layout layout number made_up
