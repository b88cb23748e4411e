-- What holds of every generated program.
use Rattle.std.specs.Prelude.{◌≡◌, ℕ, ◌+◌, ◌*◌, ◌^◌, ◌<◌, ◌≤◌, [], ◌∷◌, List, length, None, Some}
use Rattle.avf_base.specs.declared.end.End.TheVariants.{Exit}
use Rattle.elf_load.specs.Image.{LoadedImage}
use Rattle.elf_load.specs.Layout.{IsRamSize}
use Rattle.elf_load.specs.Meaning.{image_of}
use Rattle.elf_load.specs.Refusal.{first_refusal}
use Rattle.rv_isa.specs.Runs.{IsTrace, ProgramTrace, trace_at}
use Rattle.img_gen.specs.Program.{generated}

-- the loader accepts it, whatever the size of RAM
abbrev pub IsAccepted : ℕ → ℕ → Type 0
IsAccepted number size = (ram : ℕ) → IsRamSize ram → first_refusal (generated number size) ram ≡ None

-- so many instructions, which put one byte, and end with it as the status
pub record PutsAndExits (run : ProgramTrace) (count status : ℕ) : Type 0 where
  pub instructions : length run.entries ≡ count
  pub output : run.output ≡ status ∷ []
  pub end : run.end ≡ Exit status

-- The run of an image with these clock values ends itself with instruction `count`, counted from 1.
pub record ExitsAfter (image : LoadedImage) (clocks : List ℕ) (count : ℕ) : Type 0 where
  pub status : ℕ
  pub byte : status < 2 ^ 8
  pub running : (i : ℕ) → i < count → (trace_at image clocks i).stop ≡ None
  pub ended : (i : ℕ) → count ≤ i → (trace_at image clocks i).stop ≡ Some (Exit status)
  -- so each of its traces is
  pub traced : (run : ProgramTrace) → IsTrace image clocks run → PutsAndExits run count status

-- Two instructions, four rounds of the body and three more each, the last without the jump back, and four more: in a RAM of any size, and
-- whatever the clock values are.
abbrev pub RunsFourRounds : ℕ → ℕ → Type 0
RunsFourRounds number size =
    (ram : ℕ) (clocks : List ℕ) → IsRamSize ram → ExitsAfter (image_of (generated number size) ram) clocks (4 * size + 17)
