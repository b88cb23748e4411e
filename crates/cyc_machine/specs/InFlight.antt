-- Work in flight: what MEM/WB, EX/MEM and ID/EX hold, completed over a state of the instruction set. That state has the registers
-- and the memory over which it is completed, the address of the instruction that comes next, the count of instructions, the clock
-- values to come and the log. No code computes it.
use Rattle.std.specs.Prelude.{ℕ, ◌==◌, ◌&&◌, Bool, is_none, if◌then◌else◌}
use Rattle.elf_load.specs.Image.{LoadedImage}
use Rattle.rv_table.specs.declared.action.Action.{Action}
use Rattle.rv_table.specs.declared.op.Op.{Op}
use Rattle.rv_isa.specs.Instruction.{State as Arch, completed, given, performed, put_reg}
use Rattle.pipe_latch.specs.Forwarding.{operand, settled}
use Rattle.pipe_latch.specs.LatchedActions.{action_of}
use Rattle.pipe_latch.specs.Latches.{DecodedLatch, ExecutedLatch, ResultLatch, op_of_latch}

-- MEM/WB and then what EX/MEM does completed
abbrev pub latches_completed : LoadedImage → Action → ResultLatch → Arch → Arch
latches_completed image m w at = performed image m (record at { registers = put_reg w.rd w.value at.registers })

-- What stands on the path: the word address where it expects to be, its operation, and its operands by the registers.
pub record Item : Type 0 where
  pub pc : ℕ
  pub op : Op
  pub a : (ℕ → ℕ) → ℕ
  pub b : (ℕ → ℕ) → ℕ

abbrev pub completed_item : LoadedImage → Item → Arch → Arch
completed_item image item at = completed image item.op item.pc (item.a at.registers) (item.b at.registers) at

-- no end has come, and the item is at the address reached
abbrev pub is_reached : Item → Arch → Bool
is_reached item at = is_none at.stop && item.pc == at.pc

-- an operand of ID/EX, with what completing EX/MEM writes where it must be waited for
abbrev pub operand_held : LoadedImage → Action → ResultLatch → (ℕ → ℕ) → ℕ → ℕ → ℕ
operand_held image m w memory rs held = settled (operand m w rs held) (given image m memory)

-- what ID/EX holds, with the operands that it holds
abbrev pub item_of_latch : LoadedImage → Action → ResultLatch → (ℕ → ℕ) → DecodedLatch → Item
item_of_latch image m w memory d =
    record {
      pc = d.pc;
      op = op_of_latch d;
      a = λ registers. operand_held image m w memory d.rs1 d.a;
      b = λ registers. operand_held image m w memory d.rs2 d.b;
    }

-- ID/EX is occupied, no end has come, and it is at the address reached
abbrev pub is_latch_reached : DecodedLatch → Arch → Bool
is_latch_reached d at = d.valid && (is_none at.stop && d.pc == at.pc)

-- The outcome: MEM/WB, then EX/MEM, and then ID/EX where it is reached, completed.
unfoldable pub outcome : LoadedImage → ResultLatch → ExecutedLatch → DecodedLatch → Arch → Arch
outcome image w m d at =
    if is_latch_reached d (latches_completed image (action_of m) w at)
    then completed_item image (item_of_latch image (action_of m) w at.memory d) (latches_completed image (action_of m) w at)
    else latches_completed image (action_of m) w at
