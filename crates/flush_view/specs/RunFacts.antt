-- What holds of each state of a run from reset, as it follows the instruction set's run.
use Rattle.std.specs.Prelude.{◌≡◌, ◌≢◌, ◌⊎◌, suc, ◌+◌, ◌<◌, ℕ, Bool, true, false, List, None}
use Rattle.std.specs.List.{All}
use Rattle.rv_table.specs.declared.action.Action.TheVariants.{Nothing}
use Rattle.rv_isa.specs.Instruction.{State as Arch, Log, op_at, put_reg, reg}
use Rattle.pipe_latch.specs.Latches.{op_of_latch}
use Rattle.inst_buf.specs.Buffer.{entries, packed}
use Rattle.cyc_machine.specs.Busy.{WorksForMiss}
use Rattle.cyc_machine.specs.Cycle.{action_in_m}
use Rattle.cyc_machine.specs.InFlight.{operand_held}
use Rattle.cyc_machine.specs.Pipeline.{fetched, register}
use Rattle.cyc_machine.specs.State.{State}
use Rattle.rv_isa.specs.Accesses.{next_action}
use Rattle.flush_view.specs.Coherence.{IsCoherent}
use Rattle.flush_view.specs.Flush.{flush, latched, path}
use Rattle.flush_view.specs.Positions.{is_latch_on_path, on_path}
use Rattle.flush_view.specs.Views.{view}

-- the empty set of lines
abbrev pub no_line : ℕ → Bool
no_line line = false

-- ID/EX holds the decoding of the instruction at a state's address, and the operands that it reads there.
pub record HoldsNext (s : State) (at : Arch) : Type 0 where
  pub op : op_of_latch s.d ≡ op_at s.image at.pc
  pub a : operand_held s.image (action_in_m s) s.w (view s) s.d.rs1 s.d.a ≡ reg at.registers s.d.rs1
  pub b : operand_held s.image (action_in_m s) s.w (view s) s.d.rs2 s.d.b ≡ reg at.registers s.d.rs2

-- The state s follows a run of the instruction set: e instructions are done and x have left EX. The log is what was done so far, and
-- `later` are the clock values of the reads of the cycle counter that are still to come.
pub record RunFacts (s : State) (log : Log) (later : List ℕ) (trace : ℕ → Arch) (e x : ℕ) : Type 0 where
  -- the slots of the instruction buffer are filled in order, each with what is fetched at its address
  pub in_order : s.buffer ≡ packed (entries s.buffer)
  pub words : All (λ entry. entry ≡ fetched s.image entry.pc) (entries s.buffer)
  pub coherent : IsCoherent no_line s
  -- MEM/WB completed gives the state before instruction e
  pub registers : put_reg s.w.rd s.w.value (register s.registers) ≡ (trace e).registers
  pub memory : view s ≡ (trace e).memory
  pub done : log ≡ (trace e).log
  -- EX/MEM is empty and x is e, or it holds what instruction e does
  pub held : ((action_in_m s ≡ Nothing) × (x ≡ e)) ⊎ ((action_in_m s ≡ next_action s.image (trace e)) × (x ≡ suc e))
  -- EX/MEM completed after it gives the state before instruction x, whose address is npc
  pub position : latched s later log ≡ trace x
  pub running : (i : ℕ) → i < x → (trace i).stop ≡ None
  pub decoded : is_latch_on_path s trace x ≡ true → HoldsNext s (trace x)
  -- completing the path after it gives the state behind the entries that are on path
  pub flushed : flush s later log ≡ trace (x + on_path trace x (path s))
  pub busy : s.port.count ≢ 0 → WorksForMiss s
