-- Which words are which command.
use Rattle.std.specs.Prelude.{◌≤◌, ◌^◌, ◌-◌, ⊤, ℕ, List, [], ◌∷◌, length, Option, None, Some, String, string_bytes, map, codes, bytes_eq}
use Rattle.std.specs.Prelude.{nat_lt, ◌==◌, ◌&&◌, if◌then◌else◌}
use Rattle.std.specs.List.{find}
use Rattle.std.specs.Option.{option_and_then, option_map}
use Rattle.std.specs.declared.alloc.Global.{Global}
use Rattle.bit_field.specs.Shapes.{IsShape, plain}
use Rattle.bit_field.specs.Names.{name_of}
use Rattle.bit_field.specs.declared.places.Structure.{Structure}
use Rattle.bit_field.specs.declared.shapes.Shape.{Shape}
use Rattle.ace_class.specs.Counts.{structures}
use Rattle.img_gen.specs.declared.generator.TheConstants.{MAX_SIZE}
use Rattle.run_record.specs.declared.recorded.TheConstants.{LONGEST_RUN}
use Rattle.strike_campaign.specs.declared.striking.TheConstants.{MOST_STRIKES}
use Rattle.avf_tool.specs.Numbers.{number}
use Rattle.avf_tool.specs.declared.command.BitInCycle.{BitInCycle}
use Rattle.avf_tool.specs.declared.command.Protected.{Protected}
use Rattle.avf_tool.specs.declared.command.Protected.TheVariants.{Registers, Data, Both}
use Rattle.avf_tool.specs.declared.command.Task.{Task}
use Rattle.avf_tool.specs.declared.command.Task.TheVariants.{Run, Dead, Report, Csv, Plan, Campaign, Due, Map, Query, Flip}

-- what is told of the run of an image: its file's name, the machine, and how many cycles the run may take
pub record ImageJob : Type 0 where
  pub shape : Shape
  pub image : List ℕ
  pub budget : ℕ
  pub task : Task

-- a program that is generated: its number and its size, and the machine that runs it
pub record BenchJob : Type 0 where
  pub shape : Shape
  pub number : ℕ
  pub size : ℕ

-- a map that is checked against the run of an image: the files' names, the machine, and how many cycles the run may take
pub record CheckJob : Type 0 where
  pub shape : Shape
  pub image : List ℕ
  pub budget : ℕ
  pub map : List ℕ

-- A command with its arguments. One that isn't about the run of an image in a file has a case of its own here.
pub data Job : Type 0 where
  OnImage : ImageJob → Job
  -- `bench`: the report of a generated program
  Bench : BenchJob → Job
  -- `check`: whether what a map says of the run of an image is so
  CheckMap : CheckJob → Job
  -- `asm`: the file of the source that the file of a name holds
  Assemble : List ℕ → Job

-- a task by its name, and what the words behind IMAGE and BUDGET make of it
pub record TaskWords : Type 0 where
  pub name : List ℕ
  pub reads : List (List ℕ) → Option Task

-- a task that has no words of its own
abbrev pub alone : Task → List (List ℕ) → Option Task
alone task [] = Some task
alone task (word ∷ words) = None

-- the structure of a name, if there is one
abbrev pub structure_of : List ℕ → Option Structure
structure_of name = find (λ s. bytes_eq name (name_of s)) structures

-- BIT, CYCLE: below 2^32
abbrev pub word_number : List ℕ → Option ℕ
word_number text = number 0 (2 ^ 32 - 1) text

-- STRUCT BIT CYCLE: any word that isn't empty, and two numbers
abbrev pub bit_words : List (List ℕ) → Option BitInCycle
bit_words (name ∷ bit ∷ cycle ∷ []) =
    if nat_lt 0 (length name)
    then option_and_then (λ b. option_map (λ c. record { structure = structure_of name; bit = b; cycle = c }) (word_number cycle)) (word_number bit)
    else None
bit_words _ = None

-- BITS: below 2^32
abbrev pub plan_words : List (List ℕ) → Option Task
plan_words (bits ∷ []) = option_map Plan (word_number bits)
plan_words _ = None

-- SEED STRIKES: below 2^64, and 1 to 10,000
abbrev pub campaign_words : List (List ℕ) → Option Task
campaign_words (seed ∷ strikes ∷ []) =
    option_and_then (λ s. option_map (λ n. Campaign (record { seed = s; strikes = n })) (number 1 MOST_STRIKES strikes)) (number 0 (2 ^ 64 - 1) seed)
campaign_words _ = None

-- PROTECTED: `rf`, `cdata` or `both`
abbrev pub protected_named : List ℕ → Option Protected
protected_named name =
    if bytes_eq name (codes "rf") then Some Registers
    else if bytes_eq name (codes "cdata") then Some Data
    else if bytes_eq name (codes "both") then Some Both
    else None

abbrev pub due_words : List (List ℕ) → Option Task
due_words (name ∷ []) = option_map Due (protected_named name)
due_words _ = None

-- the commands `NAME IMAGE BUDGET ..`, one line each
abbrev pub tasks : List TaskWords
tasks =
    record { name = codes "run"; reads = alone Run }
    ∷ record { name = codes "dead"; reads = alone Dead }
    ∷ record { name = codes "report"; reads = alone Report }
    ∷ record { name = codes "csv"; reads = alone Csv }
    ∷ record { name = codes "plan"; reads = plan_words }
    ∷ record { name = codes "campaign"; reads = campaign_words }
    ∷ record { name = codes "due"; reads = due_words }
    ∷ record { name = codes "map"; reads = alone Map }
    ∷ record { name = codes "query"; reads = λ words. option_map Query (bit_words words) }
    ∷ record { name = codes "flip"; reads = λ words. option_map Flip (bit_words words) }
    ∷ []

-- what the first of these tasks with a name makes of the words
abbrev pub task_in : List TaskWords → List ℕ → List (List ℕ) → Option Task
task_in [] name words = None
task_in (task ∷ rest) name words = if bytes_eq name task.name then task.reads words else task_in rest name words

-- IMAGE BUDGET: any word that isn't empty, and a number of cycles that a run may take
abbrev pub image_job : Shape → List ℕ → List ℕ → Task → Option Job
image_job shape image budget task =
    if nat_lt 0 (length image)
    then option_map (λ n. OnImage (record { shape = shape; image = image; budget = n; task = task })) (number 1 LONGEST_RUN budget)
    else None

-- `NAME IMAGE BUDGET ..`
abbrev pub task_job : Shape → List ℕ → List (List ℕ) → Option Job
task_job shape name (image ∷ budget ∷ words) = option_and_then (image_job shape image budget) (task_in tasks name words)
task_job shape name _ = None

-- NUMBER SIZE: below 2^64, and 1 to 4,096
abbrev pub bench_job : Shape → List (List ℕ) → Option Job
bench_job shape (count ∷ size ∷ []) =
    option_and_then (λ n. option_map (λ s. Bench (record { shape = shape; number = n; size = s })) (number 1 MAX_SIZE size)) (number 0 (2 ^ 64 - 1) count)
bench_job shape _ = None

-- IMAGE BUDGET MAP: any words that aren't empty, and a number of cycles that a run may take
abbrev pub check_named : Shape → List ℕ → List ℕ → List ℕ → Option Job
check_named shape image budget map =
    if nat_lt 0 (length image) && nat_lt 0 (length map)
    then option_map (λ n. CheckMap (record { shape = shape; image = image; budget = n; map = map })) (number 1 LONGEST_RUN budget)
    else None

abbrev pub check_job : Shape → List (List ℕ) → Option Job
check_job shape (image ∷ budget ∷ map ∷ []) = check_named shape image budget map
check_job shape _ = None

-- a command on a machine of a shape
abbrev pub command_on : Shape → List (List ℕ) → Option Job
command_on shape (name ∷ words) =
    if bytes_eq name (codes "bench") then bench_job shape words
    else if bytes_eq name (codes "check") then check_job shape words
    else task_job shape name words
command_on shape [] = None

-- SETS: 16, 32, 64 or 128
abbrev pub known_sets : ℕ → Option ℕ
known_sets n = if n == 16 then Some n else if n == 32 then Some n else if n == 64 then Some n else if n == 128 then Some n else None

-- WAYS: 1, 2 or 4
abbrev pub known_ways : ℕ → Option ℕ
known_ways n = if n == 1 then Some n else if n == 2 then Some n else if n == 4 then Some n else None

-- MIB SETS WAYS, with 1 to 16 MiB
abbrev pub shape_words : List ℕ → List ℕ → List ℕ → Option Shape
shape_words mib sets ways =
    option_and_then (λ m. option_and_then (λ s. option_map (λ w. record { mib = m; sets = s; ways = w })
    (option_and_then known_ways (number 1 4 ways)))
    (option_and_then known_sets (number 16 128 sets)))
    (number 1 16 mib)

-- `with MIB SETS WAYS` and then a command
abbrev pub with_job : List (List ℕ) → Option Job
with_job (mib ∷ sets ∷ ways ∷ words) = option_and_then (λ shape. command_on shape words) (shape_words mib sets ways)
with_job _ = None

-- SOURCE: any word that isn't empty
abbrev pub asm_job : List (List ℕ) → Option Job
asm_job (source ∷ []) = if nat_lt 0 (length source) then Some (Assemble source) else None
asm_job _ = None

-- The command that these words are, or none; the machine has the plain shape unless `with` names another. A command that may not
-- stand behind `with` has a case of its own here.
abbrev pub command_of : List (List ℕ) → Option Job
command_of (name ∷ args) =
    if bytes_eq name (codes "with") then with_job args
    else if bytes_eq name (codes "asm") then asm_job args
    else command_on plain (name ∷ args)
command_of [] = None

-- the words as texts
abbrev pub texts : List (String Global) → List (List ℕ)
texts words = map string_bytes words

-- the report of a generated program's run, which may be as long as any
abbrev pub bench_run : BenchJob → ImageJob
bench_run job = record { shape = job.shape; image = []; budget = LONGEST_RUN; task = Report }

-- the map of the run that a map is checked against
abbrev pub own_map : CheckJob → ImageJob
own_map job = record { shape = job.shape; image = job.image; budget = job.budget; task = Map }

-- a task whose numbers are in their ranges
abbrev pub IsTask : Task → Type 0
IsTask (Campaign asked) = asked.strikes ≤ MOST_STRIKES
IsTask _ = ⊤

-- What a machine can run: the cycles, the shape and the task are in their ranges.
pub record IsRunnable (job : ImageJob) : Type 0 where
  pub least : 1 ≤ job.budget
  pub most : job.budget ≤ LONGEST_RUN
  pub shape : IsShape job.shape
  pub task : IsTask job.task

-- What can be generated: the size and the shape are in their ranges.
pub record IsMakeable (job : BenchJob) : Type 0 where
  pub least : 1 ≤ job.size
  pub most : job.size ≤ MAX_SIZE
  pub shape : IsShape job.shape

abbrev pub IsDoable : Job → Type 0
IsDoable (OnImage job) = IsRunnable job
IsDoable (Bench job) = IsMakeable job
IsDoable (CheckMap job) = IsRunnable (own_map job)
IsDoable (Assemble source) = ⊤
