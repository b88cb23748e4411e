-- Strikes that the flush doesn't feel.
use Rattle.std.proofs.Common.{◌≡◌, ◌+◌, ◌≤◌, ℕ, Bool, false, length}
use Rattle.std.specs.Int.{bit_at}
use Rattle.std.specs.Prelude.{drop}
use Rattle.rv_isa.specs.Accesses.{line_of}
use Rattle.rv_isa.specs.Instruction.{Log}
use Rattle.cyc_machine.specs.Run.{output_below}
use Rattle.cyc_machine.specs.Sizes.{IsSteady}
use Rattle.cyc_machine.specs.State.{State}
use Rattle.need_pass.specs.Needed.{Needed}
use Rattle.need_pass.specs.ProgramBits.ProgramBit.{Byte}
use Rattle.flush_view.specs.Avoids.{AvoidsAll}
use Rattle.flush_view.specs.Coherence.{IsCoherent}
use Rattle.flush_view.specs.Flush.{flush}
use Rattle.flush_view.specs.Views.{view}
use Rattle.ace_law.specs.Moments.{Moment, executed, retired, state}
use Rattle.ace_law.proofs.Alike.{Alike, IsLeftAlone, count_of, spare}

-- The state u, in place of the recorded one before the cycle: it is coherent outside X, which isn't accessed any more, and its flush is
-- alike, behind any log with the output so far. A struck EX/MEM can be completed where the recorded one wasn't, and the entry behind it.
pub record IsSpared (a : Moment) (out : ℕ → Bool) (u : State) : Type 0 where
  pub alone : IsLeftAlone a out
  pub image : u.image ≡ a.r.image
  pub steady : IsSteady u
  pub coherent : IsCoherent out u
  pub alike : (log : Log) (budget : ℕ) → log.output ≡ output_below a.r.image a.r.shape a.t → AvoidsAll out log.actions
      → count_of a + (length log.actions + 2) ≤ executed a + budget
      → Alike a out (flush u spare log) budget

-- a memory that shows each needed bit outside X as the recorded one does
pub record SeesNeeded (a : Moment) (out : ℕ → Bool) (memory : ℕ → ℕ) : Type 0 where
  pub same : (p j : ℕ) → out (line_of p) ≡ false → Needed (drop (retired a) a.run.entries) (Byte p j)
      → bit_at (memory p) j ≡ bit_at (view (state a) p) j
