-- The laws of a flip for an entry of the branch target buffer.
use Rattle.std.specs.Prelude.{◌≡◌, ◌≢◌, ℕ, ◌<◌, Some, slice_get, refl}
use Rattle.bit_field.specs.Laws.{FlipLaws}
use Rattle.bit_field.specs.Layouts.{bit_count, flip}
use Rattle.bit_field.proofs.LayoutLaws.{IsMadeUp, laws_of_layout, number_of-flip, number_of-same}
use Rattle.predictor.specs.EntryBits.{IsFit, bit_of, flip_in, flipped, layout, value, width}
use Rattle.predictor.specs.Tables.{Target as Entry}
use Rattle.predictor.specs.declared.targets.BranchTargetField.{BranchTargetField}
use Rattle.predictor.specs.declared.targets.BranchTargetField.TheVariants.{Valid, Tag, Target}

number : BranchTargetField → ℕ
number Valid = 0
number Tag = 1
number Target = 2

each : (f : BranchTargetField) → slice_get layout.fields (number f) ≡ Some f
unfolding number
each Valid = refl
each _ = refl

changes : (x : Entry) (f : BranchTargetField) (i : ℕ) → i < width f → value (flip_in x f i) f ≡ flip (value x f) i
changes x Valid i l = number_of-flip x.valid i l
changes x _ i l = refl

keeps : (x : Entry) (f g : BranchTargetField) (i : ℕ) → f ≢ g → value (flip_in x f i) g ≡ value x g
keeps x Valid Valid i ne = absurd (ne refl)
keeps x Tag Tag i ne = absurd (ne refl)
keeps x Target Target i ne = absurd (ne refl)
keeps x _ _ i ne = refl

same_fields : (x y : Entry) → ((f : BranchTargetField) → value x f ≡ value y f) → x ≡ y
same_fields x y same = λ j. record { valid = number_of-same x.valid y.valid (same Valid) j; tag = same Tag j; target = same Target j }

made_up : IsMadeUp layout number
unfolding number
made_up = record { numbered = (refl, (refl, (refl, tt))); each = each; changes = changes; keeps = keeps; same = same_fields }

pub laws : FlipLaws IsFit (λ _. bit_count layout) bit_of flipped
laws = laws_of_layout layout number made_up
