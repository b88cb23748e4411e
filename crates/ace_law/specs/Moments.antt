-- A cycle of a recorded run, and where it stands in the instruction set's run.
use Rattle.std.specs.Prelude.{◌≡◌, ◌≤◌, ◌<◌, ◌^◌, ℕ, Bool, false, List, take, Some, slice_get}
use Rattle.std.specs.List.{All}
use Rattle.elf_load.specs.Image.{IsImage}
use Rattle.rv_table.specs.Actions.{is_clocked}
use Rattle.rv_isa.specs.Instruction.{State as Arch}
use Rattle.rv_isa.specs.Runs.{IsTrace, ProgramTrace, trace_at}
use Rattle.rv_isa.specs.declared.effect.Retired.{Retired}
use Rattle.inst_buf.specs.Buffer.{entries}
use Rattle.cyc_machine.specs.Cycle.{action_in_m}
use Rattle.cyc_machine.specs.InFlight.{Item}
use Rattle.cyc_machine.specs.Run.{state_at}
use Rattle.cyc_machine.specs.State.{State}
use Rattle.need_pass.specs.Law.{NeedLaw}
use Rattle.need_pass.specs.Tables.{IsNeedOf, Needs}
use Rattle.flush_view.specs.Flush.{path, path_of}
use Rattle.flush_view.specs.Positions.{is_latch_on_path, left_decode, left_execute, left_memory, on_path}
use Rattle.flush_view.specs.Views.{view}
use Rattle.run_record.specs.Run.{IsRecord, RecordedRun}

pub record Moment : Type 0 where
  pub r : RecordedRun  -- the machine's run
  pub run : ProgramTrace  -- the instruction set's run with the recorded clock values
  pub t : ℕ  -- the cycle

-- the same run, in another cycle
abbrev pub moved : Moment → ℕ → Moment
moved a t = record a { t = t }

-- the machine's state before the cycle
abbrev pub state : Moment → State
state a = state_at a.r.image a.r.shape a.t

-- the instruction set's state before instruction i
abbrev pub trace : Moment → ℕ → Arch
trace a i = trace_at a.r.image a.r.clocks i

-- Positions: how many instructions have left EX before the cycle, how many have left the memory stage, and how many have left EX or are
-- held on path by ID/EX.
abbrev pub executed : Moment → ℕ
executed a = left_execute a.r.image a.r.shape a.t

abbrev pub retired : Moment → ℕ
retired a = left_memory a.r.image a.r.shape a.t

abbrev pub decoded : Moment → ℕ
decoded a = left_decode (state a) (trace a) (executed a)

-- how many entries of the path are on path, and whether ID/EX is
abbrev pub entries_on_path : Moment → ℕ
entries_on_path a = on_path (trace a) (executed a) (path (state a))

abbrev pub decoded_is_on_path : Moment → Bool
decoded_is_on_path a = is_latch_on_path (state a) (trace a) (executed a)

-- The entries of the path before slot i of the instruction buffer. Slots are filled in order, so before a free slot it is all of them.
abbrev pub front : Moment → ℕ → List Item
front a i = path_of (state a).image (action_in_m (state a)) (state a).w (view (state a)) (state a).d (entries (take i (state a).buffer))

-- The cycle is quiet: no instruction that hasn't left EX reads the cycle counter. So nothing that only changes timing can be seen.
abbrev pub IsQuiet : Moment → Type 0
IsQuiet a = (i : ℕ) (entry : Retired) → executed a ≤ i → slice_get a.run.entries i ≡ Some entry → is_clocked entry.op ≡ false

-- what is known of the two runs, and of the table of needs of the second
pub record IsTold (r : RecordedRun) (run : ProgramTrace) (table : Needs) : Type 0 where
  pub image : IsImage r.image
  pub recorded : IsRecord r
  pub short : r.cycles ≤ 2 ^ 31
  pub clocks : All (λ clock. clock < 2 ^ 32) r.clocks
  pub traced : IsTrace r.image r.clocks run
  pub law : NeedLaw r.image r.clocks run.entries
  pub needs : IsNeedOf run.entries table
