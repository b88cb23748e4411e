-- A machine with any of its bits flipped, and how long it lasts.
use Rattle.std.specs.Prelude.{◌≡◌, ◌≤◌, ◌<◌, ◌+◌, ◌*◌, ℕ, List, [], ◌∷◌, Option, None, Some}
use Rattle.avf_base.specs.declared.end.End.{End}
use Rattle.bit_field.specs.declared.places.Place.{Place}
use Rattle.cyc_machine.specs.Run.{EndsIn, RunsFor, retired_after}
use Rattle.cyc_machine.specs.State.{State}
use Rattle.cyc_machine.specs.Strikes.{flip_at_place}
use Rattle.cyc_machine.specs.declared.machine.TheConstants.{CYCLES_PER_INSTRUCTION}
use Rattle.flip_replay.specs.declared.outlasting.Outlasted.{Outlasted}

-- the state with the bits at these places flipped, one after another
unfoldable pub struck : State → List Place → State
struck s [] = s
struck s (place ∷ places) = struck (flip_at_place s place) places

-- the last of so many cycles, at most n, is the first that brings an end, and it brings this one
pub record EndsWith (s : State) (n cycles : ℕ) (end : End) : Type 0 where
  pub last : ℕ
  pub counted : cycles ≡ last + 1
  pub within : cycles ≤ n
  pub ends : EndsIn s last end

-- so many cycles are made where n are asked for: all of them where no end comes in them, else those up to and with the one that brings it
abbrev pub MakesCycles : State → ℕ → ℕ → Option End → Type 0
MakesCycles s n cycles None = (cycles ≡ n) × RunsFor n s
MakesCycles s n cycles (Some end) = EndsWith s n cycles end

-- What comes of n cycles from a state.
pub record Outlasts (s : State) (n : ℕ) (o : Outlasted) : Type 0 where
  pub cycles : MakesCycles s n o.cycles o.end
  pub completed : o.completed ≡ retired_after o.cycles s
  -- whatever the structures hold, an instruction is completed in so many cycles
  pub lasts : o.end ≡ None → o.cycles < CYCLES_PER_INSTRUCTION * (o.completed + 1)
