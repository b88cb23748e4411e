-- The numbers of a state of the instruction set are in their ranges.
use Rattle.std.specs.Prelude.{ℕ, ◌^◌, ◌<◌}
use Rattle.std.specs.List.{All}
use Rattle.rv_isa.specs.Instruction.{State}

-- its numbers are of 32 bits, and its bytes of 8
pub record IsWords (at : State) : Type 0 where
  pub registers : (r : ℕ) → at.registers r < 2 ^ 32
  pub memory : (p : ℕ) → at.memory p < 2 ^ 8
  pub count : at.count < 2 ^ 32
  pub clocks : All (λ clock. clock < 2 ^ 32) at.clocks
