-- What a command works on, where that is told.
use Rattle.std.specs.Prelude.{ℕ, List, Option, Some, None}
use Rattle.bit_field.specs.declared.shapes.Shape.{Shape}
use Rattle.elf_load.specs.Meaning.{image_of}
use Rattle.img_gen.specs.Program.{generated}
use Rattle.run_record.specs.Run.{RecordedRun}
use Rattle.run_record.specs.Within.{record_within}
use Rattle.avf_tool.specs.Answers.{ram_size, reason_in}
use Rattle.avf_tool.specs.Words.{CheckJob, Job, OnImage, Bench, CheckMap, Assemble}

abbrev pub run_unless : Option ℕ → Option RecordedRun → Option RecordedRun
run_unless (Some k) run = None
run_unless None run = run

-- the run of the image that contents mean, where they aren't refused and it ends within so many cycles
abbrev pub run_in : Shape → ℕ → List ℕ → Option RecordedRun
run_in shape budget contents = run_unless (reason_in shape contents) (record_within (image_of contents (ram_size shape)) shape budget)

-- these contents, but where there is a run and so a further file is read that isn't told
abbrev pub told_beside : Option (List ℕ) → Option RecordedRun → List ℕ → Option (List ℕ)
told_beside (Some further) run contents = Some contents
told_beside None None contents = Some contents
told_beside None (Some run) contents = None

-- the contents of an image and a map
abbrev pub told_check : CheckJob → Option (List ℕ) → Option (List ℕ) → Option (List ℕ)
told_check job None map = None
told_check job (Some contents) map = told_beside map (run_in job.shape job.budget contents) contents

-- what a command works on: what it reads, or what it generates
abbrev pub told_to : Job → (List ℕ → Option (List ℕ)) → Option (List ℕ)
told_to (OnImage job) holds = holds job.image
told_to (Bench job) holds = Some (generated job.number job.size)
told_to (CheckMap job) holds = told_check job (holds job.image) (holds job.map)
told_to (Assemble source) holds = holds source
