-- What recording a run answers.
use Rattle.std.specs.Prelude.{◌≡◌, ◌≤◌, ◌*◌, ℕ, List, ◌++◌, None, Result, Ok, Err, ⊤}
use Rattle.elf_load.specs.Image.{LoadedImage}
use Rattle.bit_field.specs.declared.shapes.Shape.{Shape}
use Rattle.cyc_machine.specs.Run.{IsRunning, clocks_below}
use Rattle.rv_isa.specs.Runs.{trace_at}
use Rattle.cyc_machine.specs.declared.machine.TheConstants.{CYCLES_PER_INSTRUCTION}
use Rattle.flush_view.specs.RunLaw.{EndsAfter}
use Rattle.run_record.specs.Run.{RecordedRun}
use Rattle.run_record.specs.Within.{IsRecordOf}
use Rattle.run_log.specs.declared.recording.RecordError.{RecordError}
use Rattle.run_log.specs.declared.recording.RecordError.TheVariants.{NoEnd, OutOfMemory}

-- with the recorded clock values the instruction set's run has as many instructions, and the same output and end
abbrev pub IsProgram : RecordedRun → Type 0
IsProgram r = EndsAfter r.image r.clocks r.instructions r.end r.output

-- A record that is the image's run, on the machine and by the instruction set.
pub record IsRunOf (image : LoadedImage) (shape : Shape) (budget : ℕ) (r : RecordedRun) : Type 0 where
  pub record_of : IsRecordOf image shape budget r
  pub program : IsProgram r
  pub few : r.instructions ≤ r.cycles

-- No end came in the cycles below the budget. Then the instruction set's run hasn't ended either, after as many instructions as these
-- cycles suffice for, whatever clock values may follow.
pub record IsEndless (image : LoadedImage) (shape : Shape) (budget : ℕ) : Type 0 where
  pub running : IsRunning image shape budget
  pub program : (n : ℕ) (later : List ℕ) → CYCLES_PER_INSTRUCTION * n ≤ budget → (trace_at image (clocks_below image shape budget ++ later) n).stop ≡ None

-- the record of the run; no end exactly where none came in the cycles below the budget
abbrev pub IsRecorded : LoadedImage → Shape → ℕ → Result RecordedRun RecordError → Type 0
IsRecorded image shape budget (Ok r) = IsRunOf image shape budget r
IsRecorded image shape budget (Err NoEnd) = IsEndless image shape budget
IsRecorded image shape budget (Err OutOfMemory) = ⊤
