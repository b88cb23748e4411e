-- The laws of a flip for ID/EX.
use Rattle.std.specs.Prelude.{◌≡◌, ◌≢◌, ℕ, ◌<◌, Some, slice_get, refl}
use Rattle.bit_field.specs.Laws.{FlipLaws}
use Rattle.bit_field.specs.Layouts.{bit_count, flip}
use Rattle.bit_field.proofs.LayoutLaws.{IsMadeUp, laws_of_layout, number_of-flip, number_of-same}
use Rattle.pipe_latch.specs.DecodedBits.{IsFit, bit_of, flip_in, flipped, layout, value, width}
use Rattle.pipe_latch.specs.Latches.{DecodedLatch}
use Rattle.pipe_latch.specs.declared.id_ex.IdExField.{IdExField}
use Rattle.pipe_latch.specs.declared.id_ex.IdExField.TheVariants.{Valid, Pc, Op, Rd, Rs1, Rs2, A, B, Imm, Count}

number : IdExField → ℕ
number Valid = 0
number Pc = 1
number Op = 2
number Rd = 3
number Rs1 = 4
number Rs2 = 5
number A = 6
number B = 7
number Imm = 8
number Count = 9

each : (f : IdExField) → slice_get layout.fields (number f) ≡ Some f
unfolding number
each Valid = refl
each _ = refl

changes : (d : DecodedLatch) (f : IdExField) (i : ℕ) → i < width f → value (flip_in d f i) f ≡ flip (value d f) i
changes d Valid i l = number_of-flip d.valid i l
changes d _ i l = refl

keeps : (d : DecodedLatch) (f g : IdExField) (i : ℕ) → f ≢ g → value (flip_in d f i) g ≡ value d g
keeps d Valid Valid i ne = absurd (ne refl)
keeps d Pc Pc i ne = absurd (ne refl)
keeps d Op Op i ne = absurd (ne refl)
keeps d Rd Rd i ne = absurd (ne refl)
keeps d Rs1 Rs1 i ne = absurd (ne refl)
keeps d Rs2 Rs2 i ne = absurd (ne refl)
keeps d A A i ne = absurd (ne refl)
keeps d B B i ne = absurd (ne refl)
keeps d Imm Imm i ne = absurd (ne refl)
keeps d Count Count i ne = absurd (ne refl)
keeps d _ _ i ne = refl

same_fields : (d e : DecodedLatch) → ((f : IdExField) → value d f ≡ value e f) → d ≡ e
same_fields d e same =
    λ j. record {
      valid = number_of-same d.valid e.valid (same Valid) j;
      pc = same Pc j;
      op = same Op j;
      rd = same Rd j;
      rs1 = same Rs1 j;
      rs2 = same Rs2 j;
      a = same A j;
      b = same B j;
      imm = same Imm j;
      count = same Count j;
    }

made_up : IsMadeUp layout number
unfolding number
made_up =
    record {
      numbered = (refl, (refl, (refl, (refl, (refl, (refl, (refl, (refl, (refl, (refl, tt))))))))));
      each = each;
      changes = changes;
      keeps = keeps;
      same = same_fields;
    }

pub laws : FlipLaws IsFit (λ _. bit_count layout) bit_of flipped
laws = laws_of_layout layout number made_up
