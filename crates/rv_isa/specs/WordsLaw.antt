-- The numbers of a state stay in their ranges, and its clock values only shrink.
use Rattle.std.specs.Prelude.{◌≡◌, ℕ, ◌^◌, ◌<◌, List, drop}
use Rattle.std.specs.List.{All}
use Rattle.elf_load.specs.Image.{LoadedImage, IsImage}
use Rattle.rv_table.specs.declared.op.Op.{Op}
use Rattle.rv_isa.specs.Instruction.{State, completed, instruction}
use Rattle.rv_isa.specs.Runs.{after, reset}
use Rattle.rv_isa.specs.Words.{IsWords}

pub record WordsLaw : Type 0 where
  pub reset : (image : LoadedImage) (clocks : List ℕ) → IsImage image → All (λ clock. clock < 2 ^ 32) clocks → IsWords (reset image clocks)
  -- one instruction of the program, and any number of them
  pub next : (image : LoadedImage) (at : State) → IsImage image → IsWords at → IsWords (instruction image at)
  pub runs : (image : LoadedImage) (n : ℕ) (at : State) → IsImage image → IsWords at → IsWords (after image n at)
  -- an operation on any operands, as a struck latch can hold it
  pub completes : (image : LoadedImage) (op : Op) (pc a b : ℕ) (at : State) → a < 2 ^ 32 → b < 2 ^ 32 → op.imm < 2 ^ 32 → IsWords at
      → IsWords (completed image op pc a b at)
  -- the clock values that are left are those from some value on
  pub clocks : (image : LoadedImage) (n : ℕ) (at : State) → (taken : ℕ) × ((after image n at).clocks ≡ drop taken at.clocks)
