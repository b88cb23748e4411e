-- The machine's run of an image from reset is the instruction set's run.
use Rattle.std.specs.Prelude.{◌≡◌, ◌≤◌, ◌<◌, ◌*◌, ℕ, suc, List, ◌++◌, Some, None}
use Rattle.avf_base.specs.declared.end.End.{End}
use Rattle.elf_load.specs.Image.{LoadedImage}
use Rattle.bit_field.specs.declared.shapes.Shape.{Shape}
use Rattle.cyc_machine.specs.Cycle.{end_in}
use Rattle.cyc_machine.specs.Run.{IsRunning, clocks_below, output_below, retired_below, state_at}
use Rattle.flush_view.specs.Positions.{done_below, left_execute, left_memory}
use Rattle.rv_isa.specs.Runs.{trace_at}
use Rattle.flush_view.specs.RunFacts.{RunFacts}
use Rattle.cyc_machine.specs.declared.machine.TheConstants.{CYCLES_PER_INSTRUCTION}

-- With these clock values the instruction set's run ends so after n instructions, with these bytes, and not before.
pub record EndsAfter (image : LoadedImage) (clocks : List ℕ) (n : ℕ) (end : End) (output : List ℕ) : Type 0 where
  pub running : (i : ℕ) → i < n → (trace_at image clocks i).stop ≡ None
  pub ends : (trace_at image clocks n).stop ≡ Some end
  pub puts : (trace_at image clocks n).log.output ≡ output

pub record RunLaw (image : LoadedImage) (shape : Shape) : Type 0 where
  -- each state, whatever clock values the cycles from t on will give
  pub facts : (t : ℕ) → IsRunning image shape t → (later : List ℕ)
      → RunFacts (state_at image shape t) (done_below image shape t) later (trace_at image (clocks_below image shape t ++ later))
      (left_memory image shape t) (left_execute image shape t)
  -- where the machine ends, the instruction set's run ends so, with the same output, after as many instructions as were retired
  pub ends : (t : ℕ) (end : End) → IsRunning image shape t → end_in (state_at image shape t) ≡ Some end
      → EndsAfter image (clocks_below image shape (suc t)) (retired_below image shape (suc t)) end (output_below image shape (suc t))
  -- where the instruction set's run ends, the machine ends: within so many cycles an instruction
  pub goes_on : (t n : ℕ) → IsRunning image shape t → CYCLES_PER_INSTRUCTION * n ≤ t → (later : List ℕ)
      → (trace_at image (clocks_below image shape t ++ later) n).stop ≡ None
