-- The law of runs from any state: a run goes on from where it stands, its cycles are numbered, and it keeps image and shape.
use Rattle.std.specs.Prelude.{◌≡◌, ◌+◌, ◌++◌, ℕ}
use Rattle.avf_base.specs.declared.end.End.{End}
use Rattle.bit_field.specs.declared.places.Place.{Place}
use Rattle.bit_field.specs.declared.shapes.Shape.{Shape}
use Rattle.elf_load.specs.Image.{LoadedImage}
use Rattle.rv_isa.specs.Instruction.{Log}
use Rattle.cyc_machine.specs.Run.{EndsIn, RunsFor, clocks_after, events_after, issues_after, log_after, output_after, retired_after, state_after, state_at}
use Rattle.cyc_machine.specs.State.{State}
use Rattle.cyc_machine.specs.Strikes.{InRange}

pub record RunsLaw : Type 0 where
  pub numbered : (n : ℕ) (s : State) → (state_after n s).cycle ≡ s.cycle + n
  pub image : (n : ℕ) (s : State) → (state_after n s).image ≡ s.image
  pub shape : (n : ℕ) (s : State) → (state_after n s).cache.shape ≡ s.cache.shape
  -- so a place in range stays so
  pub place : (n : ℕ) (s : State) (p : Place) → InRange s p → InRange (state_after n s) p
  -- j cycles after k cycles are j + k cycles
  pub state : (j k : ℕ) (s : State) → state_after j (state_after k s) ≡ state_after (j + k) s
  pub output : (j k : ℕ) (s : State) → output_after (j + k) s ≡ output_after k s ++ output_after j (state_after k s)
  pub events : (j k : ℕ) (s : State) → events_after (j + k) s ≡ events_after k s ++ events_after j (state_after k s)
  pub issues : (j k : ℕ) (s : State) → issues_after (j + k) s ≡ issues_after k s ++ issues_after j (state_after k s)
  pub clocks : (j k : ℕ) (s : State) → clocks_after (j + k) s ≡ clocks_after k s ++ clocks_after j (state_after k s)
  pub retired : (j k : ℕ) (s : State) → retired_after (j + k) s ≡ retired_after k s + retired_after j (state_after k s)
  pub log : (j k : ℕ) (s : State) (log : Log) → log_after (j + k) s log ≡ log_after j (state_after k s) (log_after k s log)
  -- an end after them is that of the whole, and the other way round
  pub ends : (j k : ℕ) (s : State) (end : End) → RunsFor k s → EndsIn (state_after k s) j end → EndsIn s (j + k) end
  pub ended : (j k : ℕ) (s : State) (end : End) → EndsIn s (j + k) end → EndsIn (state_after k s) j end
  -- the run from reset
  pub cycle_at : (image : LoadedImage) (shape : Shape) (t : ℕ) → (state_at image shape t).cycle ≡ t
  pub image_at : (image : LoadedImage) (shape : Shape) (t : ℕ) → (state_at image shape t).image ≡ image
  pub shape_at : (image : LoadedImage) (shape : Shape) (t : ℕ) → (state_at image shape t).cache.shape ≡ shape
