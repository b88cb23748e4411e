-- How long a run is that ends within a budget.
use Rattle.std.proofs.Common.{◌≡◌, ◌<◌, ℕ, suc, Some, None, Option, subst, arith, inl, inr}
use Rattle.std.proofs.lemmas.Bool.{cases_lt}
use Rattle.avf_base.specs.declared.end.End.{End}
use Rattle.bit_field.specs.Shapes.{IsShape}
use Rattle.bit_field.specs.declared.shapes.Shape.{Shape}
use Rattle.elf_load.specs.Image.{LoadedImage}
use Rattle.cyc_machine.specs.Cycle.{end_in}
use Rattle.cyc_machine.specs.Run.{IsRunning, state_at}
use Rattle.run_record.specs.Run.{RecordedRun}
use Rattle.run_record.specs.Within.{IsRecordOf, record_within}
use Rattle.run_record.proofs.Within.{within_is_record}

ended : (o : Option End) (end : End) → o ≡ None → o ≡ Some end → ⊥
ended o end none some = absurd cc

past_by : (image : LoadedImage) (shape : Shape) (k : ℕ) (r : RecordedRun) → IsRunning image shape k → r.image ≡ image → r.shape ≡ shape
    → (last : ℕ) → r.cycles ≡ suc last → end_in (state_at r.image r.shape last) ≡ Some r.end → k < r.cycles
past_by image shape k r running image_is shape_is last cycles ends =
    elim (cases_lt last k) [
      | inl below ↦
          let at : end_in (state_at image shape last) ≡ Some r.end =
          subst (λ i. end_in (state_at i shape last) ≡ Some r.end) image_is (subst (λ s. end_in (state_at r.image s last) ≡ Some r.end) shape_is ends) in
          absurd (ended (end_in (state_at image shape last)) r.end (running last below) at)
      | inr above ↦ omega (arith, cycles, above)
    ]

-- a run whose first k cycles bring no end is longer
pub past : (image : LoadedImage) (shape : Shape) (budget k : ℕ) (r : RecordedRun) → IsShape shape → IsRunning image shape k
    → record_within image shape budget ≡ Some r → k < r.cycles
past image shape budget k r fits running within =
    let of : IsRecordOf image shape budget r = within_is_record image shape budget r fits within in
    past_by image shape k r running of.image_is of.shape_is of.is_record.last (omega (arith, of.is_record.cycles)) of.is_record.ends
