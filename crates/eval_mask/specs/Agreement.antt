-- When what came of a flipped state agrees with what came of the recorded one: both have ended with the same output and the same end;
-- or neither has, and output, address and all that is needed from instruction j on are the same.
use Rattle.std.specs.Prelude.{◌≡◌, ℕ, None}
use Rattle.std.specs.Int.{bit_at}
use Rattle.rv_isa.specs.Instruction.{State}
use Rattle.need_pass.specs.ProgramBits.{ProgramBit, Register, Byte, IsProgramBit, bit_of}
use Rattle.need_pass.specs.Tables.{Needs, byte_need, reg_need}

-- the table of needs says that a bit is needed before instruction j
abbrev pub IsNeeded : Needs → ℕ → ProgramBit → Type 0
IsNeeded needs j (Register r k) = bit_at (reg_need needs r j) k ≡ 1
IsNeeded needs j (Byte p k) = bit_at (byte_need needs p j) k ≡ 1

-- two states hold the same in every bit that is needed before instruction j
pub record SameNeeded (needs : Needs) (j : ℕ) (a b : State) : Type 0 where
  pub same : (p : ProgramBit) → IsProgramBit p → IsNeeded needs j p → bit_of a p ≡ bit_of b p

pub record Agree (needs : Needs) (j : ℕ) (a b : State) : Type 0 where
  pub output : a.log.output ≡ b.log.output
  pub stop : a.stop ≡ b.stop
  pub next : a.stop ≡ None → (a.pc ≡ b.pc) × SameNeeded needs j a b
