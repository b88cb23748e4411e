-- The state after an instruction, field by field.
use Rattle.std.proofs.Common.{◌≡◌, cond, refl}
use Rattle.elf_load.specs.Image.{LoadedImage}
use Rattle.rv_table.specs.Actions.{is_clocked, next_address}
use Rattle.rv_table.specs.Effects.{written_register}
use Rattle.rv_isa.specs.Accesses.{next_action}
use Rattle.rv_isa.specs.Effects.{operand_b}
use Rattle.rv_isa.specs.Instruction.{State, completed, given, instruction, later_clocks, memory_after, next_count, op_at, put_reg, reg}

pub registers_next : (image : LoadedImage) (at : State)
    → (instruction image at).registers ≡ put_reg (written_register (next_action image at)) (given image (next_action image at) at.memory) at.registers
unfolding instruction completed
registers_next image at = refl

pub memory_next : (image : LoadedImage) (at : State) → (instruction image at).memory ≡ memory_after image (next_action image at) at.memory
unfolding instruction completed
memory_next image at = refl

pub pc_next : (image : LoadedImage) (at : State)
    → (instruction image at).pc ≡ next_address (op_at image at.pc) at.pc (reg at.registers (op_at image at.pc).rs1) (operand_b (op_at image at.pc) at)
unfolding instruction completed
pc_next image at = refl

pub count_next : (image : LoadedImage) (at : State) → (instruction image at).count ≡ next_count at.count
unfolding instruction completed
count_next image at = refl

pub clocks_next : (image : LoadedImage) (at : State) → (instruction image at).clocks ≡ cond (is_clocked (op_at image at.pc)) (later_clocks at.clocks) at.clocks
unfolding instruction completed
clocks_next image at = refl
