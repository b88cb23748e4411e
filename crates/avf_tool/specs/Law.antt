-- What holds of every run that a command tells of.
use Rattle.std.specs.Prelude.{◌≡◌, ◌<◌, ◌^◌, ℕ, List, All, None, Some}
use Rattle.bit_field.specs.Shapes.{IsShape}
use Rattle.bit_field.specs.declared.shapes.Shape.{Shape}
use Rattle.elf_load.specs.Meaning.{image_of}
use Rattle.elf_load.specs.Refusal.{first_refusal}
use Rattle.run_record.specs.Run.{RecordedRun}
use Rattle.run_record.specs.Within.{record_within}
use Rattle.run_log.specs.Answers.{IsProgram}
use Rattle.avf_tool.specs.Answers.{check_answer, image_answer, ram_size}
use Rattle.avf_tool.specs.Due.{Text}
use Rattle.avf_tool.specs.Texts.{accepted_text}
use Rattle.avf_tool.specs.Words.{CheckJob, IsRunnable, own_map}

-- Where contents of bytes aren't refused and the machine's run on the image that they mean ends within the budget, what is recorded of it
-- is the instruction set's run: its output, its end, and how many instructions it had.
pub record ProgramLaw : Type 0 where
  pub is_program : (contents : List ℕ) (shape : Shape) (budget : ℕ) (run : RecordedRun) → All (λ b. b < 2 ^ 8) contents → IsShape shape
      → first_refusal contents (ram_size shape) ≡ None → record_within (image_of contents (ram_size shape)) shape budget ≡ Some run → IsProgram run

-- The map that is written of the run of an image is accepted against that run.
pub record MapLaw : Type 0 where
  pub is_accepted : (job : CheckJob) (contents map : List ℕ) → IsRunnable (own_map job) → image_answer (own_map job) contents (Text map)
      → (pairs : ℕ) × check_answer job (Some map) contents (Text (accepted_text pairs))
