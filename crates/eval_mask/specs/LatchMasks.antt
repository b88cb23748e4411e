-- Which bits of the latches are logically masked (Mukherjee et al., MICRO 2003): flipping one leaves an outcome that agrees. The
-- outcome is what MEM/WB, EX/MEM and ID/EX leave once they are completed, each with the fields that it holds.
use Rattle.std.specs.Prelude.{◌≡◌, ℕ, ◌+◌, ◌<◌, ◌==◌, ◌&&◌, ◌↔◌, Bool, true, false, nat_lt, [], Option, Some, None, slice_index, if◌then◌else◌}
use Rattle.std.specs.Int.{bit_at}
use Rattle.elf_load.specs.Image.{LoadedImage}
use Rattle.rv_table.specs.Actions.{is_clocked}
use Rattle.rv_isa.specs.Architecture.{ArchState, state_of}
use Rattle.rv_isa.specs.Instruction.{State, put_reg}
use Rattle.pipe_latch.specs.DecodedBits as decoded
use Rattle.pipe_latch.specs.ExecutedBits as executed
use Rattle.pipe_latch.specs.ResultBits as result
use Rattle.pipe_latch.specs.Latches.{DecodedLatch, ExecutedLatch, ResultLatch, op_of_latch}
use Rattle.pipe_latch.specs.LatchedActions.{action_of}
use Rattle.pipe_latch.specs.declared.id_ex.IdExField.{IdExField}
use Rattle.pipe_latch.specs.declared.id_ex.IdExField.TheVariants.{Valid as DecodedValid, Pc, Count}
use Rattle.pipe_latch.specs.declared.ex_mem.ExMemField.{ExMemField}
use Rattle.pipe_latch.specs.declared.ex_mem.ExMemField.TheVariants.{Cause}
use Rattle.pipe_latch.specs.declared.mem_wb.MemWbField.{MemWbField}
use Rattle.cyc_machine.specs.InFlight.{is_latch_reached, latches_completed, outcome}
use Rattle.need_pass.specs.Tables.{Needs}
use Rattle.eval_mask.specs.Agreement.{Agree}
use Rattle.eval_mask.specs.declared.latches.LatchMask.{LatchMask}

-- the three latches of a state
pub record Latches : Type 0 where
  pub w : ResultLatch  -- MEM/WB
  pub m : ExecutedLatch  -- EX/MEM
  pub d : DecodedLatch  -- ID/EX

-- The state under them: registers and memory of the instruction set's state once MEM/WB is completed, but for the register that
-- MEM/WB writes, which still holds its old value; npc is the address that comes next, x the number of instructions before it.
abbrev pub base_of : ArchState → ℕ → ℕ → ℕ → ℕ → State
base_of arch rd old npc x =
    record (state_of arch) { registers = put_reg rd old (slice_index arch.registers); pc = npc; count = x; clocks = [] }

-- completing them completes a read of the cycle counter
unfoldable pub reads_clock : LoadedImage → Latches → State → Bool
reads_clock image l at = is_latch_reached l.d (latches_completed image (action_of l.m) l.w at) && is_clocked (op_of_latch l.d)

-- the outcome of the latches with a bit flipped agrees, and reads no cycle counter
pub record IsMasked (needs : Needs) (j : ℕ) (image : LoadedImage) (at : State) (l other : Latches) : Type 0 where
  pub unread : reads_clock image other at ≡ false
  pub agree : Agree needs j (outcome image other.w other.m other.d at) (outcome image l.w l.m l.d at)

-- ID/EX holds the next instruction of the run: it is occupied, at the address that comes next, and the run has an instruction x
abbrev pub is_on_path : Needs → DecodedLatch → ℕ → ℕ → Bool
is_on_path needs d npc x = d.valid && (d.pc == npc && nat_lt x needs.count)

-- the instruction from which on the outcome's bits are needed
abbrev pub first_after : Needs → DecodedLatch → ℕ → ℕ → ℕ
first_after needs d npc x = if is_on_path needs d npc x then x + 1 else x

abbrev pub Masked : Needs → ArchState → Latches → ℕ → ℕ → ℕ → Latches → Type 0
Masked needs arch l old npc x other = IsMasked needs (first_after needs l.d npc x) arch.image (base_of arch l.w.rd old npc x) l other

-- The fields whose bits can be masked. Those of ID/EX that say where and when are not among them, nor is the cause in EX/MEM.
abbrev pub decoded_field : IdExField → Bool
decoded_field DecodedValid = false
decoded_field Pc = false
decoded_field Count = false
decoded_field _ = true

abbrev pub executed_field : ExMemField → Bool
executed_field Cause = false
executed_field _ = true

abbrev pub result_field : MemWbField → Bool
result_field _ = true

abbrev pub is_in : {F : Type 0} → (F → Bool) → Option (F × ℕ) → Bool
is_in chosen None = false
is_in chosen (Some place) = chosen place.0

-- bit k of ID/EX, of EX/MEM and of MEM/WB is masked; that of ID/EX only where ID/EX holds the next instruction
pub record IsDecodedMasked (needs : Needs) (arch : ArchState) (l : Latches) (old npc x k : ℕ) : Type 0 where
  pub on_path : is_on_path needs l.d npc x ≡ true
  pub field : is_in decoded_field (decoded.field_of k) ≡ true
  pub masked : Masked needs arch l old npc x (record l { d = decoded.flipped l.d k })

pub record IsExecutedMasked (needs : Needs) (arch : ArchState) (l : Latches) (old npc x k : ℕ) : Type 0 where
  pub field : is_in executed_field (executed.field_of k) ≡ true
  pub masked : Masked needs arch l old npc x (record l { m = executed.flipped l.m k })

pub record IsResultMasked (needs : Needs) (arch : ArchState) (l : Latches) (old npc x k : ℕ) : Type 0 where
  pub field : is_in result_field (result.field_of k) ≡ true
  pub masked : Masked needs arch l old npc x (record l { w = result.flipped l.w k })

-- a number of so many bits has exactly those bits of which P holds
pub record HasBits (count : ℕ) (P : ℕ → Type 0) (mask : ℕ) : Type 0 where
  pub bits : (k : ℕ) → k < count → (bit_at mask k ≡ 1) ↔ P k

-- the masks of the three latches; ID/EX has more bits than a number of 128
pub record IsLatchMask (needs : Needs) (arch : ArchState) (l : Latches) (old npc x : ℕ) (mask : LatchMask) : Type 0 where
  pub idex_low : HasBits 128 (IsDecodedMasked needs arch l old npc x) mask.idex_low
  pub idex_high : HasBits 32 (λ k. IsDecodedMasked needs arch l old npc x (128 + k)) mask.idex_high
  pub exmem : HasBits 128 (IsExecutedMasked needs arch l old npc x) mask.exmem
  pub memwb : HasBits 64 (IsResultMasked needs arch l old npc x) mask.memwb
