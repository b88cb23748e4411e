-- What recording a run answers, by the record within a budget.
use Rattle.std.proofs.Common.{◌≡◌, ℕ, None, Some, subst}
use Rattle.bit_field.specs.declared.shapes.Shape.{Shape}
use Rattle.elf_load.specs.Image.{LoadedImage}
use Rattle.run_record.specs.Run.{RecordedRun}
use Rattle.run_record.specs.Within.{record_within}
use Rattle.run_record.proofs.Within.{none_within, record_is_within}
use Rattle.run_log.specs.Answers.{IsEndless, IsRunOf}
use Rattle.avf_tool.specs.Stages.{IsRun}

-- a run that was recorded
pub ran : (image : LoadedImage) (shape : Shape) (budget : ℕ) (r : RecordedRun) → IsRunOf image shape budget r → IsRun shape image budget r
ran image shape budget r h = record {
  within = subst (λ i. record_within i shape budget ≡ Some r) h.record_of.image_is
      (subst (λ s. record_within r.image s budget ≡ Some r) h.record_of.shape_is (record_is_within r budget h.record_of.is_record h.record_of.within));
  program = h.program;
}

-- one that didn't end
pub not_ran : (image : LoadedImage) (shape : Shape) (budget : ℕ) → IsEndless image shape budget → record_within image shape budget ≡ None
not_ran image shape budget h = none_within image shape budget h.running
