-- The progress law: whatever the structures hold, an instruction is soon done with.
use Rattle.std.specs.Prelude.{◌≡◌, ◌<◌, ℕ, true}
use Rattle.cyc_machine.specs.Cycle.{retires}
use Rattle.cyc_machine.specs.Run.{RunsFor, state_after}
use Rattle.cyc_machine.specs.State.{State}

-- In one of the first n cycles from s an occupied EX/MEM is left, no end having come before. (The cycle that ends a run leaves an
-- occupied EX/MEM: that of the ending instruction.)
pub record LeavesWithin (n : ℕ) (s : State) : Type 0 where
  pub waits : ℕ
  pub within : waits < n
  pub running : RunsFor waits s
  pub leaves : retires (state_after waits s) ≡ true
