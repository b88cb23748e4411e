-- The bits whose need is told: those of registers and of bytes of memory.
use Rattle.std.specs.Prelude.{ℕ, ◌^◌, ◌<◌}
use Rattle.std.specs.Int.{bit_at}
use Rattle.rv_isa.specs.Instruction.{State}

-- bit k of register r, or of the byte at byte address p
pub data ProgramBit : Type 0 where
  Register : ℕ → ℕ → ProgramBit
  Byte : ℕ → ℕ → ProgramBit

-- Registers are 1 to 31. An access outside RAM traps and accesses nothing, so no bit of a byte outside RAM is ever needed.
abbrev pub IsProgramBit : ProgramBit → Type 0
IsProgramBit (Register r k) = (0 < r) × (r < 32) × (k < 32)
IsProgramBit (Byte p k) = (p < 2 ^ 32) × (k < 8)

-- what a state holds there, 0 or 1
abbrev pub bit_of : State → ProgramBit → ℕ
bit_of at (Register r k) = bit_at (at.registers r) k
bit_of at (Byte p k) = bit_at (at.memory p) k
