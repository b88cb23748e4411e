-- What the stages of a command answer: the contracts of this crate's own functions.
use Rattle.std.specs.Prelude.{◌≡◌, ◌<◌, ◌≤◌, Vec, ℕ, List, length, Option, Some, None, IfSome, Result, Ok, Err, ⊤}
use Rattle.std.specs.declared.alloc.Global.{Global}
use Rattle.avf_base.specs.Causes.{Rose}
use Rattle.avf_base.specs.Refusals.{Cause, ByWords, ByShelf, ByContents, ByOut, Free, cause_of}
use Rattle.avf_base.specs.declared.refusal.Refusal.{Refusal}
use Rattle.avf_base.specs.declared.refusal.Refusal.TheVariants.{BadImage, NoEnd, OutOfMemory}
use Rattle.bit_field.specs.declared.shapes.Shape.{Shape}
use Rattle.elf_load.specs.Image.{LoadedImage}
use Rattle.elf_load.specs.Meaning.{image_of}
use Rattle.elf_load.specs.Refusal.{first_refusal}
use Rattle.rv_isa.specs.Runs.{ProgramTrace, IsTrace}
use Rattle.run_record.specs.Run.{RecordedRun}
use Rattle.run_record.specs.Within.{record_within}
use Rattle.avf_tool.specs.Answers.{ram_size}
use Rattle.avf_tool.specs.Due.{Answer, Text, Refused}
use Rattle.run_log.specs.Answers.{IsProgram}
use Rattle.avf_tool.specs.Texts.{deadness_text}

-- why a file wasn't read, where a longer one is refused so
abbrev pub WasRead : Cause → Refusal → ℕ → Option (List ℕ) → ℕ → ℕ → Refusal → Type 0
WasRead ByContents long limit known before now refusal = (refusal ≡ long) × IfSome known (λ contents. limit < length contents)
WasRead ByShelf long limit known before now refusal = Rose before now
WasRead Free long limit known before now refusal = ⊤
WasRead ByWords long limit known before now refusal = ⊥
WasRead ByOut long limit known before now refusal = ⊥

-- A file of at most `limit` bytes. `known` is what it holds, where that is told, and the two numbers are the shelf's faults.
abbrev pub IsRead : Refusal → ℕ → Option (List ℕ) → ℕ → ℕ → Result (Vec ℕ Global) Refusal → Type 0
IsRead long limit known before now (Ok v) = (length v.items ≤ limit) × IfSome known (λ contents. v.items ≡ contents)
IsRead long limit known before now (Err refusal) = WasRead (cause_of refusal) long limit known before now refusal

-- these bytes, or want of memory
abbrev pub IsMade : List ℕ → Result (Vec ℕ Global) Refusal → Type 0
IsMade bytes (Ok made) = made.items ≡ bytes
IsMade bytes (Err OutOfMemory) = ⊤
IsMade bytes (Err refusal) = ⊥

-- the image that these contents mean, or the first reason to refuse them
abbrev pub IsLoaded : Shape → List ℕ → Result LoadedImage Refusal → Type 0
IsLoaded shape contents (Ok image) = (first_refusal contents (ram_size shape) ≡ None) × (image ≡ image_of contents (ram_size shape))
IsLoaded shape contents (Err (BadImage k)) = first_refusal contents (ram_size shape) ≡ Some k
IsLoaded shape contents (Err OutOfMemory) = ⊤
IsLoaded shape contents (Err refusal) = ⊥

-- The record of a run that ends within so many cycles. It is the instruction set's run too.
pub record IsRun (shape : Shape) (image : LoadedImage) (budget : ℕ) (run : RecordedRun) : Type 0 where
  pub within : record_within image shape budget ≡ Some run
  pub program : IsProgram run

-- the machine's run on an image, or that it doesn't end within so many cycles
abbrev pub Ran : Shape → LoadedImage → ℕ → Result RecordedRun Refusal → Type 0
Ran shape image budget (Ok run) = IsRun shape image budget run
Ran shape image budget (Err NoEnd) = record_within image shape budget ≡ None
Ran shape image budget (Err OutOfMemory) = ⊤
Ran shape image budget (Err refusal) = ⊥

-- the instruction set's run with the recorded clock values
abbrev pub Traced : RecordedRun → Result ProgramTrace Refusal → Type 0
Traced run (Ok trace) = IsTrace run.image run.clocks trace
Traced run (Err OutOfMemory) = ⊤
Traced run (Err refusal) = ⊥

-- the text of the classes of a trace's instructions
abbrev pub IsDeadText : ProgramTrace → Result (Vec ℕ Global) Refusal → Type 0
IsDeadText trace (Ok text) = text.items ≡ deadness_text trace.entries
IsDeadText trace (Err OutOfMemory) = ⊤
IsDeadText trace (Err refusal) = ⊥

-- a refusal that was worked out of what is given, or want of memory
abbrev pub WorkedOut : Cause → (Answer → Type 0) → Refusal → Type 0
WorkedOut ByContents due refusal = due (Refused refusal)
WorkedOut Free due refusal = ⊤
WorkedOut ByWords due refusal = ⊥
WorkedOut ByShelf due refusal = ⊥
WorkedOut ByOut due refusal = ⊥

-- the text that is due, or the refusal that is
abbrev pub IsText : (Answer → Type 0) → Result (Vec ℕ Global) Refusal → Type 0
IsText due (Ok text) = due (Text text.items)
IsText due (Err refusal) = WorkedOut (cause_of refusal) due refusal

-- How a command is refused. `due` is what is due for each contents of its file, `known` what it holds, where that is told, and the two
-- numbers are the shelf's faults.
abbrev pub Performed : Cause → (List ℕ → Answer → Type 0) → Option (List ℕ) → ℕ → ℕ → Refusal → Type 0
Performed ByContents due known before now refusal = IfSome known (λ contents. due contents (Refused refusal))
Performed ByShelf due known before now refusal = Rose before now
Performed Free due known before now refusal = ⊤
Performed ByWords due known before now refusal = ⊥
Performed ByOut due known before now refusal = ⊥

-- what a command gives
abbrev pub Answers : (List ℕ → Answer → Type 0) → Option (List ℕ) → ℕ → ℕ → Result (Vec ℕ Global) Refusal → Type 0
Answers due known before now (Ok text) = IfSome known (λ contents. due contents (Text text.items))
Answers due known before now (Err refusal) = Performed (cause_of refusal) due known before now refusal
