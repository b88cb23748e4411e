-- What is known of needed bits without working them out.
use Rattle.std.specs.Prelude.{◌≡◌, ℕ, true, List, Some, slice_get}
use Rattle.elf_load.specs.Image.{LoadedImage}
use Rattle.rv_isa.specs.Accesses.{next_line}
use Rattle.rv_isa.specs.Instruction.{State}
use Rattle.rv_isa.specs.declared.effect.Retired.{Retired}
use Rattle.need_pass.specs.Law.{seen}
use Rattle.need_pass.specs.Links.{loads}
use Rattle.need_pass.specs.Needed.{Needed}
use Rattle.need_pass.specs.ProgramBits.{ProgramBit, Byte, IsProgramBit}

pub record NeedFacts : Type 0 where
  -- it is one of the 32 bits of a register from 1 to 31, or of the 8 bits of a byte
  pub bits : (entries : List Retired) (q : ProgramBit) → Needed entries q → IsProgramBit q
  -- a byte with a needed bit is loaded by one of these instructions
  pub loaded : (entries : List Retired) (p k : ℕ) → Needed entries (Byte p k)
      → (j : ℕ) × (entry : Retired) × (slice_get entries j ≡ Some entry) × (loads entry p ≡ true)
  -- where the same is seen of the next instructions of two states, they access the same line
  pub places : (image : LoadedImage) (s u : State) → seen image s ≡ seen image u → next_line image s ≡ next_line image u
