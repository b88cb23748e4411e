-- The map that is written of a run is accepted against it.
use Rattle.std.proofs.Common.{◌≡◌, ℕ, ◌^◌, ◌<◌, List, Option, None, Some, refl, sym, subst, inl, arith}
use Rattle.std.specs.Prelude.{sum_by}
use Rattle.avf_base.specs.declared.refusal.Refusal.{Refusal}
use Rattle.avf_base.specs.declared.refusal.Refusal.TheVariants.{BadImage, NoEnd}
use Rattle.bit_field.specs.Shapes.{IsShape}
use Rattle.bit_field.specs.declared.shapes.Shape.{Shape}
use Rattle.class_map.proofs.HarmlessLines.{file_harmless}
use Rattle.class_map.proofs.OwnMaps.{own_map as accepted_own}
use Rattle.class_map.specs.Checks.{IsAccepted}
use Rattle.class_map.specs.Faults.{lines_of}
use Rattle.class_map.specs.Lines.{pairs_of}
use Rattle.class_map.specs.Written.{text_of}
use Rattle.elf_load.specs.Image.{LoadedImage}
use Rattle.elf_load.specs.Meaning.{image_of}
use Rattle.run_record.specs.Run.{RecordedRun}
use Rattle.run_record.specs.Within.{IsRecordOf, record_within}
use Rattle.run_record.proofs.Few.{record_few}
use Rattle.run_record.proofs.Within.{within_is_record}
use Rattle.avf_tool.specs.Answers.{check_answer, image_answer, on_run, ram_size, reason_in, unless_endless, unless_refused}
use Rattle.avf_tool.specs.CheckAnswers.{check_due}
use Rattle.avf_tool.specs.Due.{Answer, Text, Refused}
use Rattle.avf_tool.specs.Law.{MapLaw}
use Rattle.avf_tool.specs.MapAnswers.{map_due}
use Rattle.avf_tool.specs.ReportAnswers.{story_of}
use Rattle.avf_tool.specs.Texts.{accepted_text}
use Rattle.avf_tool.specs.Words.{CheckJob, IsRunnable, own_map}

-- a map is accepted with some number of pairs
Accepts : (Answer → Type 0) → Type 0
Accepts due = (pairs : ℕ) × due (Text (accepted_text pairs))

same_text : (a b : List ℕ) → Text a ≡ Text b → a ≡ b
same_text a b e = cc

never : (refusal : Refusal) (text : List ℕ) → Refused refusal ≡ Text text → ⊥
never refusal text e = cc

by_run : (run : RecordedRun) (map : List ℕ) → IsShape run.shape → run.cycles < 2 ^ 32 → run.instructions < 2 ^ 32 → map_due run (Text map)
    → Accepts (check_due (Some map) run)
unfolding Accepts
by_run run map shape short few h =
    let pairs = sum_by pairs_of h.0 in
    let same : text_of (story_of run) h.0 ≡ map = same_text (text_of (story_of run) h.0) map h.2 in
    let accepted : IsAccepted (story_of run) (lines_of map) pairs =
    subst (λ (m : List ℕ). IsAccepted (story_of run) (lines_of m) pairs) same (accepted_own (story_of run) h.0 shape short few h.1.all) in
    (pairs, inl (pairs, record { accepted = accepted; harmless = file_harmless (story_of run) map pairs h.1.harmless accepted }, refl))

of_record : (image : LoadedImage) (shape : Shape) (budget : ℕ) (run : RecordedRun) (map : List ℕ) → IsShape shape → budget < 2 ^ 32
    → IsRecordOf image shape budget run → map_due run (Text map) → Accepts (check_due (Some map) run)
of_record image shape budget run map fits small is h =
    let few = record_few run is.is_record in
    let within = is.within in
    by_run run map (subst IsShape (sym is.shape_is) fits) (omega (arith, within, small)) (omega (arith, few, within, small)) h

by_end : (image : LoadedImage) (shape : Shape) (budget : ℕ) (found : Option RecordedRun) (map : List ℕ) → IsShape shape → budget < 2 ^ 32
    → record_within image shape budget ≡ found → unless_endless found map_due (Text map) → Accepts (unless_endless found (check_due (Some map)))
by_end image shape budget None map fits small e h = absurd (never NoEnd map h)
by_end image shape budget (Some run) map fits small e h = of_record image shape budget run map fits small (within_is_record image shape budget run fits e) h

by_reason : (bad : Option ℕ) (due there : Answer → Type 0) (map : List ℕ) → (due (Text map) → Accepts there) → unless_refused bad due (Text map)
    → Accepts (unless_refused bad there)
by_reason (Some k) due there map goes h = absurd (never (BadImage k) map h)
by_reason None due there map goes h = goes h

of_image : (image : LoadedImage) (shape : Shape) (budget : ℕ) (map : List ℕ) → IsShape shape → budget < 2 ^ 32
    → unless_endless (record_within image shape budget) map_due (Text map) → Accepts (unless_endless (record_within image shape budget) (check_due (Some map)))
of_image image shape budget map fits small h = by_end image shape budget (record_within image shape budget) map fits small refl h

of_contents : (job : CheckJob) (contents map : List ℕ) → IsRunnable (own_map job) → image_answer (own_map job) contents (Text map)
    → Accepts (check_answer job (Some map) contents)
of_contents job contents map runs h =
    let most = runs.most in
    by_reason (reason_in job.shape contents) (on_run job.shape job.budget map_due (image_of contents (ram_size job.shape)))
    (on_run job.shape job.budget (check_due (Some map)) (image_of contents (ram_size job.shape))) map
    (of_image (image_of contents (ram_size job.shape)) job.shape job.budget map runs.shape (omega (arith, most))) h

pub map_law : MapLaw
unfolding Accepts
map_law = record { is_accepted = of_contents }
