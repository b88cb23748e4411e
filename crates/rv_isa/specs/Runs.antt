-- The architectural run of an image: its states, and what is recorded of it.
use Rattle.std.specs.Prelude.{◌≡◌, ℕ, ◌/◌, ◌<◌, ◌≤◌, is_none, List, [], length, Some, None, Result, Ok, Err, zero, suc, if◌then◌else◌, slice_get}
use Rattle.elf_load.specs.Image.{LoadedImage, IsImage, ram_byte}
use Rattle.avf_base.specs.declared.end.End.{End}
use Rattle.rv_isa.specs.Effects.{retired_at}
use Rattle.rv_isa.specs.Instruction.{State, instruction}
use Rattle.rv_isa.specs.declared.effect.Retired.{Retired}
use Rattle.rv_isa.specs.declared.error.IsaError.{IsaError}
use Rattle.rv_isa.specs.declared.error.IsaError.TheVariants.{NoEnd, OutOfMemory}

-- before the first instruction, with the clock values that code 50 takes
unfoldable pub reset : LoadedImage → List ℕ → State
reset image clocks =
    record {
      registers = λ r. 0;
      memory = ram_byte image image.ram;
      pc = image.entry / 4;
      count = 0;
      clocks = clocks;
      log = record { output = []; actions = [] };
      stop = None;
    }

-- the state after at most n instructions: the run stays where it ended
unfoldable pub after : LoadedImage → ℕ → State → State
after image zero at = at
after image (suc n) at = if is_none at.stop then after image n (instruction image at) else at

-- the state before instruction i of an image's run, with the clock values that its reads of the cycle counter take
abbrev pub trace_at : LoadedImage → List ℕ → ℕ → State
trace_at image clocks i = after image i (reset image clocks)

-- a run that has ended: what each instruction was, the bytes that it put, and its end
pub record ProgramTrace : Type 0 where
  pub entries : List Retired
  pub output : List ℕ
  pub end : End

-- The trace of an image with these clock values. Its length is the number of instructions, the ending one included.
pub record IsTrace (image : LoadedImage) (clocks : List ℕ) (run : ProgramTrace) : Type 0 where
  pub retired : (i : ℕ) → i < length run.entries → slice_get run.entries i ≡ Some (retired_at image (trace_at image clocks i))
  pub running : (i : ℕ) → i < length run.entries → (trace_at image clocks i).stop ≡ None
  pub ends : (trace_at image clocks (length run.entries)).stop ≡ Some run.end
  pub puts : (trace_at image clocks (length run.entries)).log.output ≡ run.output

-- the trace of some image with some clock values
pub record ComesFromImage (run : ProgramTrace) : Type 0 where
  pub image : LoadedImage
  pub clocks : List ℕ
  pub loaded : IsImage image
  pub traced : IsTrace image clocks run

-- What a run of at most `limit` instructions answers: its trace, or that they didn't end it. Want of memory may come at any time.
abbrev pub IsAnswer : LoadedImage → List ℕ → ℕ → Result ProgramTrace IsaError → Type 0
IsAnswer image clocks limit (Ok run) = (length run.entries ≤ limit) × IsTrace image clocks run
IsAnswer image clocks limit (Err NoEnd) = (trace_at image clocks limit).stop ≡ None
IsAnswer image clocks limit (Err OutOfMemory) = Unit {0}
