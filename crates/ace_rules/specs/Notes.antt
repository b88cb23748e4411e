-- What is kept of each cycle and each instruction of a run, and what it means.
use Rattle.std.specs.Prelude.{Bool, ◌≡◌, ◌≤◌, ◌<◌, ◌↔◌, ◌+◌, ◌-◌, ◌^◌, ◌==◌, ℕ, true, List, [], length}
use Rattle.std.specs.Prelude.{Option, Some, None, option_map, is_none, slice_get, if◌then◌else◌}
use Rattle.bit_field.specs.declared.places.Structure.{Structure}
use Rattle.elf_load.specs.Image.{LoadedImage, fetch}
use Rattle.rv_isa.specs.Architecture.{ArchState, state_of}
use Rattle.rv_isa.specs.Instruction.{State as Arch}
use Rattle.rv_isa.specs.Runs.{ProgramTrace}
use Rattle.rv_table.specs.Effects.{written_register}
use Rattle.pipe_latch.specs.LatchedActions.{kind_of}
use Rattle.pipe_latch.specs.declared.kinds.ExMemKind.TheVariants.{Trap}
use Rattle.inst_buf.specs.Buffer.{entries}
use Rattle.cyc_machine.specs.Cycle.{action_in_m}
use Rattle.cyc_machine.specs.Pipeline.{register}
use Rattle.need_pass.specs.Tables.{Needs}
use Rattle.eval_mask.specs.LatchMasks.{IsLatchMask}
use Rattle.eval_mask.specs.Seems.{no_log}
use Rattle.eval_mask.specs.WordMasks.{IsWordMask}
use Rattle.eval_mask.specs.declared.latches.LatchMask.{LatchMask}
use Rattle.flush_view.specs.Flush.{path}
use Rattle.run_record.specs.Run.{RecordedRun}
use Rattle.ace_class.specs.declared.class.Class.{Class}
use Rattle.ace_law.specs.Classes.{IsClass}
use Rattle.ace_law.specs.Moments.{IsQuiet, IsTold, Moment, decoded_is_on_path, entries_on_path, executed, retired, state, trace}
use Rattle.ace_rules.specs.declared.note.Note.{Note}

-- a state of the instruction set, but for clock values and log
abbrev pub bare : Arch → Arch
bare at = record at { clocks = []; log = no_log }

-- the masks of the latches are those over the instruction set's state once MEM/WB is completed
pub record IsMaskOf (a : Moment) (table : Needs) (mask : LatchMask) : Type 0 where
  pub arch : ArchState
  pub image : arch.image ≡ a.r.image
  pub stands : bare (state_of arch) ≡ bare (trace a (retired a))
  pub exact : IsLatchMask table arch (record { w = (state a).w; m = (state a).m; d = (state a).d })
      (register (state a).registers (state a).w.rd) (state a).npc (executed a) mask

-- the word address of an instruction, none after the end
abbrev pub address_at : Arch → Option ℕ
address_at at = if is_none at.stop then Some at.pc else None

-- The note says what the rules ask of the state before the cycle.
pub record IsNote (a : Moment) (table : Needs) (note : Note) : Type 0 where
  pub left : note.executed ≡ executed a
  pub occupied : note.occupied ≡ (state a).m.valid
  pub traps : (note.traps ≡ true) ↔ (kind_of (state a).m.kind ≡ Trap)
  pub executed_rd : note.executed_rd ≡ written_register (action_in_m (state a))
  pub result_rd : note.result_rd ≡ (state a).w.rd
  pub decoded_rd : note.decoded_rd ≡ (state a).d.rd
  pub decoded : note.decoded ≡ (state a).d.valid
  pub decoded_on_path : note.decoded_on_path ≡ decoded_is_on_path a
  pub decoded_next : note.decoded_next ≡ ((state a).d.pc == (state a).npc)
  pub waiting : note.waiting ≡ length (entries (state a).buffer)
  pub on_path : note.on_path ≡ entries_on_path a
  pub next : note.next ≡ address_at (trace a (executed a + entries_on_path a))
  pub missed : note.missed ≡ option_map (λ item. item.pc) (slice_get (path (state a)) (entries_on_path a))
  pub stores : note.stores ≡ (state a).stores
  pub masks : IsMaskOf a table note.masks

-- the mask of the word of instruction i; where no word is fetched, all bits are masked
pub record IsWordMaskOf (a : Moment) (table : Needs) (i mask : ℕ) : Type 0 where
  pub arch : ArchState
  pub image : arch.image ≡ a.r.image
  pub stands : bare (state_of arch) ≡ bare (trace a i)
  pub exact : (word : ℕ) → fetch a.r.image (trace a i).pc ≡ Some word → IsWordMask table i arch word mask
  pub all : fetch a.r.image (trace a i).pc ≡ None → mask ≡ 2 ^ 32 - 1

-- of each instruction the mask of its word
pub record AreWordMasks (a : Moment) (table : Needs) (words : List ℕ) : Type 0 where
  pub instructions : length words ≡ length a.run.entries
  pub each : (i mask : ℕ) → slice_get words i ≡ Some mask → IsWordMaskOf a table i mask

-- a run as it is analysed
pub record Story : Type 0 where
  pub r : RecordedRun
  pub run : ProgramTrace

abbrev pub moment : Story → ℕ → Moment
moment story t = record { r = story.r; run = story.run; t = t }

-- what is kept of a run: a note a cycle, a mask an instruction, and the first quiet cycle
pub record AreNotes (story : Story) (table : Needs) (notes : List Note) (words : List ℕ) (quiet : ℕ) : Type 0 where
  pub cycles : length notes ≡ story.r.cycles
  pub each : (t : ℕ) (note : Note) → slice_get notes t ≡ Some note → IsNote (moment story t) table note
  pub instructions : length words ≡ length story.run.entries
  pub word : (i mask : ℕ) → slice_get words i ≡ Some mask → IsWordMaskOf (moment story 0) table i mask
  pub silent : (t : ℕ) → t < story.r.cycles → (quiet ≤ t) ↔ IsQuiet (moment story t)

-- the note is that of a moment of a run, and it is known whether the moment is quiet
pub record IsKnown (a : Moment) (table : Needs) (note : Note) (quiet : Bool) : Type 0 where
  pub told : IsTold a.r a.run table
  pub below : a.t < a.r.cycles
  pub noted : IsNote a table note
  pub silent : (quiet ≡ true) ↔ IsQuiet a

pub record IsSomeMoment (table : Needs) (note : Note) (quiet : Bool) : Type 0 where
  pub a : Moment
  pub known : IsKnown a table note quiet

-- and the run is of this image
pub record IsSomeMomentOf (table : Needs) (note : Note) (quiet : Bool) (image : LoadedImage) : Type 0 where
  pub a : Moment
  pub known : IsKnown a table note quiet
  pub same : image ≡ a.r.image

-- this is the class of bit k of a structure, whatever moment the note is of
abbrev pub IsNotedClass : Class → Note → Bool → Structure → ℕ → Type 0
IsNotedClass class note quiet s k =
    (a : Moment) (needs : Needs) → IsKnown a needs note quiet → IsClass class a (record { structure = s; bit = k })

-- the same where these are the masks of the run's words, and where the needs and the image are those of the run
abbrev pub IsFetchedClass : Class → Note → List ℕ → Bool → Structure → ℕ → Type 0
IsFetchedClass class note words quiet s k =
    (a : Moment) (needs : Needs) → IsKnown a needs note quiet → AreWordMasks a needs words
    → IsClass class a (record { structure = s; bit = k })

abbrev pub IsPendingClass : Class → Needs → LoadedImage → Note → Bool → Structure → ℕ → Type 0
IsPendingClass class needs image note quiet s k =
    (a : Moment) → IsKnown a needs note quiet → image ≡ a.r.image → IsClass class a (record { structure = s; bit = k })
