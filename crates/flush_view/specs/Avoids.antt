-- Avoiding a set X of lines: no access in them.
use Rattle.std.specs.Prelude.{◌≡◌, ⊤, ℕ, Bool, false, List, [], ◌∷◌, Option, Some, None, if◌then◌else◌}
use Rattle.rv_table.specs.declared.action.Action.{Action}
use Rattle.rv_isa.specs.Accesses.{address_of, line_of, next_action}
use Rattle.rv_isa.specs.Instruction.{State as Arch, Log}
use Rattle.cyc_machine.specs.State.{State}
use Rattle.flush_view.specs.Flush.{flush}

-- an address, where there is one, is in no line of X
abbrev pub IsOutside : (ℕ → Bool) → Option ℕ → Type 0
IsOutside out (Some x) = out (line_of x) ≡ false
IsOutside out None = ⊤

-- an action accesses no line of X
abbrev pub Avoids : (ℕ → Bool) → Action → Type 0
Avoids out done = IsOutside out (address_of done)

abbrev pub AvoidsAll : (ℕ → Bool) → List Action → Type 0
AvoidsAll out [] = ⊤
AvoidsAll out (done ∷ actions) = Avoids out done × AvoidsAll out actions

-- Neither what the log says, nor anything that the flush completes, nor, where the flush hasn't ended, the instruction at its
-- address accesses a line of X.
pub record AvoidsFlush (out : ℕ → Bool) (s : State) (clocks : List ℕ) (log : Log) : Type 0 where
  pub done : AvoidsAll out (flush s clocks log).log.actions
  pub next : (flush s clocks log).stop ≡ None → Avoids out (next_action s.image (flush s clocks log))

-- memory in which the bytes of the lines of X read 0
unfoldable pub masked : (ℕ → Bool) → (ℕ → ℕ) → ℕ → ℕ
masked out memory p = if out (line_of p) then 0 else memory p

-- the state but for the bytes of the lines of X
abbrev pub outside : (ℕ → Bool) → Arch → Arch
outside out at = record at { memory = masked out at.memory }
