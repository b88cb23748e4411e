-- Flushes that are bound to give the recorded output and end.
use Rattle.std.proofs.Common.{◌≡◌, ◌+◌, ◌≤◌, ◌<◌, ℕ, Bool, true, List, [], ◌∷◌, length, ◌⊎◌}
use Rattle.std.specs.Prelude.{None, Some, drop}
use Rattle.rv_isa.specs.Instruction.{State as Arch}
use Rattle.rv_isa.specs.Words.{IsWords}
use Rattle.need_pass.specs.Needed.{Agrees}
use Rattle.flush_view.specs.Avoids.{AvoidsAll, masked}
use Rattle.ace_law.specs.MemoryRules.{IsAccessedLater}
use Rattle.ace_law.specs.Moments.{Moment, executed, trace}

-- One clock value that no quiet run takes: where it is left, no read of the cycle counter was completed.
abbrev pub spare : List ℕ
spare = 0 ∷ []

abbrev pub count_of : Moment → ℕ
count_of a = length a.run.entries

-- a state as the recorded run could hold it: with its clock values, and with nothing in the lines of X
abbrev pub seen_as : (ℕ → Bool) → Arch → Arch → Arch
seen_as out recorded at = record at { memory = masked out at.memory; clocks = recorded.clocks }

-- The flush hasn't ended and agrees, outside X, with the recorded state before some instruction i that hadn't left EX. The budget is
-- the number of actions that will have been completed at the end.
pub record Going (a : Moment) (out : ℕ → Bool) (at : Arch) (budget : ℕ) : Type 0 where
  pub i : ℕ
  pub from : executed a ≤ i
  pub below : i < count_of a
  pub stop : at.stop ≡ None
  pub words : IsWords (seen_as out (trace a i) at)
  pub agrees : Agrees (drop i a.run.entries) (trace a i) (seen_as out (trace a i) at)
  pub puts : at.log.output ≡ (trace a i).log.output
  pub count : count_of a + length at.log.actions ≤ i + budget

-- the flush has ended as the recorded run has
pub record Ended (a : Moment) (at : Arch) (budget : ℕ) : Type 0 where
  pub stop : at.stop ≡ Some a.run.end
  pub puts : at.log.output ≡ a.run.output
  pub count : length at.log.actions ≤ budget

pub record Alike (a : Moment) (out : ℕ → Bool) (at : Arch) (budget : ℕ) : Type 0 where
  pub unread : at.clocks ≡ spare
  pub avoids : AvoidsAll out at.log.actions
  pub case : Going a out at budget ⊎ Ended a at budget

-- no instruction that hasn't left the memory stage accesses a line of X
abbrev pub IsLeftAlone : Moment → (ℕ → Bool) → Type 0
IsLeftAlone a out = (line : ℕ) → out line ≡ true → IsAccessedLater a line → ⊥
