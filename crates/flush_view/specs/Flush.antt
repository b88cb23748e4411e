-- The flush: the state of the instruction set's run that a machine state stands for. It completes what MEM/WB and EX/MEM hold
-- and then what stands on the path, in order. After Burch and Dill, CAV 1994. No code computes it.
use Rattle.std.specs.Prelude.{ℕ, ◌+◌, Bool, false, List, [], ◌∷◌, map, None, if◌then◌else◌}
use Rattle.elf_load.specs.Image.{LoadedImage}
use Rattle.rv_table.specs.Actions.{is_clocked}
use Rattle.rv_table.specs.declared.op.Op.{Op}
use Rattle.rv_table.specs.declared.action.Action.{Action}
use Rattle.rv_isa.specs.Instruction.{State as Arch, Log, reg}
use Rattle.pipe_latch.specs.Latches.{DecodedLatch, ResultLatch, op_of_latch}
use Rattle.inst_buf.specs.Buffer.{entries}
use Rattle.inst_buf.specs.Entry.{Entry}
use Rattle.cyc_machine.specs.declared.fate.Fate.{Fate}
use Rattle.cyc_machine.specs.declared.fate.Fate.TheVariants.{Goes}
use Rattle.cyc_machine.specs.Cycle.{action_in_m, fate}
use Rattle.cyc_machine.specs.InFlight.{Item, completed_item, is_reached, item_of_latch, latches_completed}
use Rattle.cyc_machine.specs.Pipeline.{op_of_entry, register}
use Rattle.cyc_machine.specs.State.{State}
use Rattle.flush_view.specs.Views.{view}

-- completes the items in order, up to the first that isn't reached
unfoldable pub completed_path : LoadedImage → List Item → Arch → Arch
completed_path image [] at = at
completed_path image (item ∷ items) at =
    if is_reached item at then completed_path image items (completed_item image item at) else at

-- how many of the items are completed
unfoldable pub completed_count : LoadedImage → List Item → Arch → ℕ
completed_count image [] at = 0
completed_count image (item ∷ items) at =
    if is_reached item at then completed_count image items (completed_item image item at) + 1 else 0

-- what an entry of the instruction buffer holds; its operands are read from the registers
abbrev pub item_of_entry : Entry → Item
item_of_entry e =
    let op : Op = op_of_entry e in
    record { pc = e.pc; op = op; a = λ registers. reg registers op.rs1; b = λ registers. reg registers op.rs2 }

abbrev pub path_of : LoadedImage → Action → ResultLatch → (ℕ → ℕ) → DecodedLatch → List Entry → List Item
path_of image m w memory d waiting =
    if d.valid then item_of_latch image m w memory d ∷ map item_of_entry waiting else map item_of_entry waiting

-- ID/EX, where it is occupied, and the entries of the instruction buffer
abbrev pub path : State → List Item
path s = path_of s.image (action_in_m s) s.w (view s) s.d (entries s.buffer)

-- the state of the instruction set with nothing of the work in flight completed, over a memory
abbrev pub before_latches : State → (ℕ → ℕ) → List ℕ → Log → Arch
before_latches s memory clocks log =
    record {
      registers = register s.registers;
      memory = memory;
      pc = s.npc;
      count = s.issued;
      clocks = clocks;
      log = log;
      stop = None;
    }

-- MEM/WB and then EX/MEM completed, over the view
abbrev pub latched : State → List ℕ → Log → Arch
latched s clocks log = latches_completed s.image (action_in_m s) s.w (before_latches s (view s) clocks log)

-- The flush with these clock values for the reads of the cycle counter to come, after what the log says.
unfoldable pub flush : State → List ℕ → Log → Arch
flush s clocks log = completed_path s.image (path s) (latched s clocks log)

-- how many entries of the path the flush completes
abbrev pub entries_completed : State → List ℕ → Log → ℕ
entries_completed s clocks log = completed_count s.image (path s) (latched s clocks log)

-- whether this cycle issues a read of the cycle counter
abbrev pub clocks_now : Fate → DecodedLatch → Bool
clocks_now (Goes a b) d = is_clocked (op_of_latch d)
clocks_now _ d = false

-- the clock values before a cycle: the number of the cycle stands in front where the cycle issues a read of it
abbrev pub fed : State → List ℕ → List ℕ
fed s clocks = if clocks_now (fate s) s.d then s.cycle ∷ clocks else clocks
