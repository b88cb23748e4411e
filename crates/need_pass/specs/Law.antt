-- The need law: a run from a state that agrees with a recorded one on the needed bits does the same.
use Rattle.std.specs.Prelude.{◌≡◌, ◌≢◌, ℕ, zero, suc, ◌+◌, ◌^◌, ◌<◌, ◌≤◌, List, [], ◌∷◌, length, drop, Option, Some}
use Rattle.std.specs.List.{All}
use Rattle.avf_base.specs.declared.end.End.{End}
use Rattle.elf_load.specs.Image.{LoadedImage, IsImage}
use Rattle.rv_isa.specs.declared.effect.Retired.{Retired}
use Rattle.rv_isa.specs.Accesses.{line_of, next_action, next_line}
use Rattle.rv_isa.specs.Instruction.{State, end_of, instruction}
use Rattle.rv_isa.specs.Words.{IsWords}
use Rattle.rv_isa.specs.Runs.{ProgramTrace, IsTrace, trace_at}
use Rattle.rv_table.specs.Actions.{access_of}
use Rattle.rv_table.specs.Effects.{byte_put}
use Rattle.rv_table.specs.declared.action.Access.{Access}
use Rattle.need_pass.specs.Needed.{Agrees, Needed}
use Rattle.need_pass.specs.ProgramBits.{Byte}

-- What is seen of an instruction from outside.
pub record Seen : Type 0 where
  pub pc : ℕ  -- its word address
  pub access : Option Access  -- where it loads or stores, and how many bytes
  pub byte : Option ℕ  -- the byte that it puts
  pub end : Option End  -- how it ends the run

unfoldable pub seen : LoadedImage → State → Seen
seen image at =
    let done = next_action image at in
    record { pc = at.pc; access = access_of done; byte = byte_put done; end = end_of done }

-- of n instructions from a state on
unfoldable pub seen_of : LoadedImage → ℕ → State → List Seen
seen_of image zero at = []
seen_of image (suc n) at = seen image at ∷ seen_of image n (instruction image at)

-- What need promises of a recorded run with these instructions, for every state that agrees with one of its states.
pub record NeedLaw (image : LoadedImage) (clocks : List ℕ) (entries : List Retired) : Type 0 where
  -- the next instruction does the same
  pub sees : (i : ℕ) (at : State) → i < length entries → IsWords at → Agrees (drop i entries) (trace_at image clocks i) at
      → seen image at ≡ seen image (trace_at image clocks i)
  -- and the states after it agree
  pub words : (at : State) → IsWords at → IsWords (instruction image at)
  pub agrees : (i : ℕ) (at : State) → i < length entries → IsWords at → Agrees (drop i entries) (trace_at image clocks i) at
      → Agrees (drop (i + 1) entries) (trace_at image clocks (i + 1)) (instruction image at)
  -- so all further instructions do the same, to the end of the run
  pub runs : (i n : ℕ) (at : State) → i + n ≤ length entries → IsWords at → Agrees (drop i entries) (trace_at image clocks i) at
      → seen_of image n at ≡ seen_of image n (trace_at image clocks i)
  -- no bit is needed of a byte whose line no instruction from i on accesses
  pub unneeded : (i p k : ℕ) → ((j : ℕ) → i ≤ j → j < length entries → next_line image (trace_at image clocks j) ≢ Some (line_of p))
      → Needed (drop i entries) (Byte p k) → ⊥

-- the law, for the image and the clock values that the run is the trace of
abbrev pub HasNeedLaw : ProgramTrace → Type 0
HasNeedLaw run =
    (image : LoadedImage) (clocks : List ℕ) → IsImage image → All (λ clock. clock < 2 ^ 32) clocks → IsTrace image clocks run
    → NeedLaw image clocks run.entries
