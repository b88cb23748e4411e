-- How far the walk of a machine beside a record has come.
use Rattle.std.specs.Prelude.{◌≡◌, ◌+◌, ◌≤◌, ◌<◌, ℕ, List, [], Some, None, length, slice_get}
use Rattle.rv_isa.specs.Architecture.{ArchState, state_of}
use Rattle.rv_isa.specs.Instruction.{State as Arch}
use Rattle.rv_isa.specs.Runs.{ProgramTrace}
use Rattle.cyc_machine.specs.State.{State}
use Rattle.need_pass.specs.Tables.{Needs}
use Rattle.eval_mask.specs.Seems.{no_log}
use Rattle.run_record.specs.Run.{RecordedRun}
use Rattle.ace_law.specs.Moments.{IsTold, executed, retired, state, trace}
use Rattle.ace_rules.specs.Notes.{IsNote, IsWordMaskOf, Story, moment}
use Rattle.ace_rules.specs.Situations.{AreKept}
use Rattle.ace_rules.specs.Walks.{IsLastClock, story_of}
use Rattle.ace_rules.specs.declared.note.Note.{Note}
use Rattle.ace_rules.specs.declared.walk.Walker.{Walker}

-- a state of the instruction set, but for clock values, log and end
abbrev pub silent : Arch → Arch
silent at = record at { clocks = []; log = no_log; stop = None }

-- Each instruction so far has its mask, and the instruction set's state is that behind them.
pub record AreJudged (story : Story) (table : Needs) (arch : ArchState) (words : List ℕ) : Type 0 where
  pub image : arch.image ≡ story.r.image
  pub stands : silent (state_of arch) ≡ silent (trace (moment story 0) (length words))
  pub word : (i mask : ℕ) → slice_get words i ≡ Some mask → IsWordMaskOf (moment story 0) table i mask

-- each cycle so far has its note
pub record AreNoted (story : Story) (table : Needs) (t : ℕ) (notes : List Note) : Type 0 where
  pub cycles : length notes ≡ t
  pub each : (k : ℕ) (note : Note) → slice_get notes k ≡ Some note → IsNote (moment story k) table note

-- in the cycles below it a read of the cycle counter is to come, in the others below t none is
pub record IsQuietSince (story : Story) (last t quiet : ℕ) : Type 0 where
  pub loud : (k : ℕ) → k < quiet → executed (moment story k) < last
  pub still : (k : ℕ) → k < t → quiet ≤ k → last ≤ executed (moment story k)

-- The machine stands before cycle t, and x instructions have left EX; the instruction set's state is that once MEM/WB is completed.
pub record IsWalked (story : Story) (table : Needs) (last t : ℕ) (machine : State) (arch : ArchState) (x : ℕ) (notes : List Note)
    (words : List ℕ) (quiet : ℕ) : Type 0 where
  pub state : machine ≡ state (moment story t)
  pub left : x ≡ executed (moment story t)
  pub done : length words ≡ retired (moment story t)
  pub rises : (k : ℕ) → k ≤ t → executed (moment story k) ≤ x
  pub few : x ≤ t
  pub judged : AreJudged story table arch words
  pub noted : AreNoted story table t notes
  pub quiets : IsQuietSince story last t quiet

-- the walk stands before cycle t, and the masks that it keeps of the cycle before hold
pub record IsWalk (story : Story) (table : Needs) (t : ℕ) (walker : Walker) : Type 0 where
  pub walked : IsWalked story table walker.last t walker.machine walker.arch walker.executed walker.notes.cycles.items walker.notes.words.items
      walker.notes.quiet
  pub masks : AreKept table walker.arch walker.kept
  pub clock : IsLastClock story.run.entries (length story.run.entries) walker.last

-- it is the walk of some run
pub record IsSomeWalk (run : ProgramTrace) (table : Needs) (t : ℕ) (walker : Walker) : Type 0 where
  pub r : RecordedRun
  pub told : IsTold r run table
  pub below : t < r.cycles
  pub walk : IsWalk (story_of r run) table t walker

-- a walk goes on by cycle t, whatever run it is of
abbrev pub GoesOn : ProgramTrace → Needs → ℕ → Walker → Walker → Type 0
GoesOn run table t walker next =
    (r : RecordedRun) → IsTold r run table → t < r.cycles → IsWalk (story_of r run) table t walker → IsWalk (story_of r run) table (t + 1) next
