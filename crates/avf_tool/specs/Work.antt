-- How much a call works: how many cycles of the machine it simulates, and how many instructions the instruction set runs.
use Rattle.std.specs.Prelude.{◌≡◌, ◌≤◌, ◌*◌, ℕ, Bool, true, false, List, Option, Some, None}
use Rattle.elf_load.specs.Meaning.{image_of}
use Rattle.run_record.specs.Run.{RecordedRun}
use Rattle.run_record.specs.Within.{record_within}
use Rattle.avf_tool.specs.Answers.{ram_size}
use Rattle.avf_tool.specs.Told.{told_to}
use Rattle.avf_tool.specs.Words.{ImageJob, Job, OnImage, Bench, CheckMap, Assemble, bench_run, own_map}
use Rattle.avf_tool.specs.declared.command.Task.{Task}
use Rattle.avf_tool.specs.declared.command.Task.TheVariants.{Campaign, Flip}

-- by the length of a run: three times its cycles at most, and 64 times its instructions
pub record IsFewFor (run : RecordedRun) (steps applies : ℕ) : Type 0 where
  pub cycles : steps ≤ 3 * run.cycles
  pub instructions : applies ≤ 64 * run.instructions

-- a task that tells of the run alone, and of no flipped one
abbrev pub tells_of_one_run : Task → Bool
tells_of_one_run (Flip asked) = false
tells_of_one_run (Campaign asked) = false
tells_of_one_run _ = true

-- Where such a task is asked for, and the run of the image that the contents mean ends within the budget, its length bounds the work.
abbrev pub IsFew : ImageJob → List ℕ → ℕ → ℕ → Type 0
IsFew job contents steps applies =
    (run : RecordedRun) → tells_of_one_run job.task ≡ true
    → record_within (image_of contents (ram_size job.shape)) job.shape job.budget ≡ Some run → IsFewFor run steps applies

-- what is told of a run, where a command does that
abbrev pub run_of : Job → Option ImageJob
run_of (OnImage job) = Some job
run_of (Bench job) = Some (bench_run job)
run_of (CheckMap job) = Some (own_map job)
run_of (Assemble name) = None

-- the work of a job that works on what is told
abbrev pub WorkOf : Job → Option (List ℕ) → ℕ → ℕ → Type 0
WorkOf job known steps applies =
    (image : ImageJob) (contents : List ℕ) → run_of job ≡ Some image → known ≡ Some contents → IsFew image contents steps applies

-- the work of a call
abbrev pub Works : Option Job → (List ℕ → Option (List ℕ)) → ℕ → ℕ → Type 0
Works asked holds steps applies = (job : Job) → asked ≡ Some job → WorkOf job (told_to job holds) steps applies
