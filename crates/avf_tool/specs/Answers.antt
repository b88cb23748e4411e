-- Which answer is due to each command for the contents of its file.
use Rattle.std.specs.Prelude.{ℕ, List, length, Option, Some, None, nat_lt, if◌then◌else◌, ◌*◌, ◌^◌}
use Rattle.avf_base.specs.declared.refusal.Refusal.TheVariants.{BadImage, BadSource, NoEnd}
use Rattle.bit_field.specs.declared.shapes.Shape.{Shape}
use Rattle.elf_load.specs.Image.{LoadedImage}
use Rattle.elf_load.specs.Meaning.{image_of}
use Rattle.elf_load.specs.Refusal.{first_refusal}
use Rattle.run_record.specs.Run.{RecordedRun}
use Rattle.run_record.specs.Within.{record_within}
use Rattle.rv_asm.specs.Sources.{assembled, fault_in, number_of}
use Rattle.rv_asm.specs.declared.fault.Fault.{Fault}
use Rattle.avf_tool.specs.BitAnswers.{flip_due, query_due}
use Rattle.avf_tool.specs.CampaignAnswers.{campaign_due}
use Rattle.avf_tool.specs.CheckAnswers.{check_due}
use Rattle.avf_tool.specs.DueAnswers.{parity_due}
use Rattle.avf_tool.specs.Due.{Answer, Text, Refused, only}
use Rattle.avf_tool.specs.MapAnswers.{map_due}
use Rattle.avf_tool.specs.Programs.{instructions_of}
use Rattle.avf_tool.specs.ReportAnswers.{csv_due, plan_due, report_due}
use Rattle.avf_tool.specs.Texts.{deadness_text, run_text}
use Rattle.avf_tool.specs.Words.{CheckJob, ImageJob, Job, OnImage, Bench, CheckMap, Assemble, bench_run}
use Rattle.avf_tool.specs.declared.command.Task.{Task}
use Rattle.avf_tool.specs.declared.command.Task.TheVariants.{Run, Dead, Report, Csv, Plan, Campaign, Due, Map, Query, Flip}
use Rattle.avf_tool.specs.declared.stages.TheConstants.{IMAGE_LIMIT, TOO_LONG}

-- the size of a machine's RAM, in bytes
abbrev pub ram_size : Shape → ℕ
ram_size shape = shape.mib * 2 ^ 20

abbrev pub unless_refused : Option ℕ → (Answer → Type 0) → Answer → Type 0
unless_refused (Some k) next = only (Refused (BadImage k))
unless_refused None next = next

-- the first reason to refuse the contents of an image's file
abbrev pub reason_in : Shape → List ℕ → Option ℕ
reason_in shape contents = if nat_lt IMAGE_LIMIT (length contents) then Some TOO_LONG else first_refusal contents (ram_size shape)

-- on the image that the contents of a file mean, unless there is a reason to refuse them
abbrev pub on_image : Shape → List ℕ → (LoadedImage → Answer → Type 0) → Answer → Type 0
on_image shape contents next = unless_refused (reason_in shape contents) (next (image_of contents (ram_size shape)))

abbrev pub unless_endless : Option RecordedRun → (RecordedRun → Answer → Type 0) → Answer → Type 0
unless_endless (Some run) next = next run
unless_endless None next = only (Refused NoEnd)

-- on the machine's run of an image, where it ends within so many cycles
abbrev pub on_run : Shape → ℕ → (RecordedRun → Answer → Type 0) → LoadedImage → Answer → Type 0
on_run shape budget next image = unless_endless (record_within image shape budget) next

-- what is told of a run, one line a task
abbrev pub task_answer : Task → RecordedRun → Answer → Type 0
task_answer Run run = only (Text (run_text run.output run.end run.instructions))
task_answer Dead run = only (Text (deadness_text (instructions_of run)))
task_answer Report run = report_due run
task_answer Csv run = csv_due run
task_answer (Plan bits) run = plan_due run bits
task_answer (Campaign asked) run = campaign_due run asked
task_answer (Due protected) run = parity_due run protected
task_answer Map run = map_due run
task_answer (Query asked) run = query_due run asked
task_answer (Flip asked) run = flip_due run asked

abbrev pub unless_faulty : Option (ℕ × Fault) → Answer → Answer
unless_faulty (Some fault) next = Refused (BadSource fault.0 (number_of fault.1))
unless_faulty None next = next

-- the file of a source, unless it has a fault: line 0 is the whole source
abbrev pub source_answer : List ℕ → Answer
source_answer source = unless_faulty (fault_in source) (Text (assembled source))

abbrev pub source_due : List ℕ → Answer → Type 0
source_due source = only (source_answer source)

-- what is told of the run of the image that these contents mean
abbrev pub image_answer : ImageJob → List ℕ → Answer → Type 0
image_answer job contents = on_image job.shape contents (on_run job.shape job.budget (task_answer job.task))

-- what a map says, judged by the run of the image that these contents mean
abbrev pub check_answer : CheckJob → Option (List ℕ) → List ℕ → Answer → Type 0
check_answer job map contents = on_image job.shape contents (on_run job.shape job.budget (check_due map))

-- Which answers are due to a command that works on these contents: there is one. A further file holds what `holds` tells.
abbrev pub answer : Job → (List ℕ → Option (List ℕ)) → List ℕ → Answer → Type 0
answer (OnImage job) holds contents = image_answer job contents
answer (Bench job) holds contents = image_answer (bench_run job) contents
answer (CheckMap job) holds contents = check_answer job (holds job.map) contents
answer (Assemble name) holds contents = source_due contents
