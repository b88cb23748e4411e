-- The law of the sizes that last: a machine has them, reset and a cycle keep them; and what holds of every machine is kept by a strike.
use Rattle.std.specs.Prelude.{ℕ, ◌≤◌, ◌<◌, ◌^◌}
use Rattle.bit_field.specs.Shapes.{IsShape}
use Rattle.bit_field.specs.declared.places.Place.{Place}
use Rattle.bit_field.specs.declared.shapes.Shape.{Shape}
use Rattle.elf_load.specs.Image.{IsImage, LoadedImage}
use Rattle.cyc_machine.specs.Cycle.{cycle}
use Rattle.cyc_machine.specs.Facts.{IsMachine}
use Rattle.cyc_machine.specs.Sizes.{IsSteady}
use Rattle.cyc_machine.specs.Run.{state_at}
use Rattle.cyc_machine.specs.State.{State}
use Rattle.cyc_machine.specs.Strikes.{InRange, flip_at_place}

pub record SizesLaw : Type 0 where
  pub steady : (s : State) → IsMachine s → IsSteady s
  pub kept : (s : State) → IsSteady s → IsSteady (cycle s)
  -- A cycle keeps all that holds of a machine where its number has 32 bits, since a read of the cycle counter gives that number; so it
  -- holds of each state of a run from reset.
  pub words : (s : State) → IsMachine s → s.cycle < 2 ^ 32 → IsMachine (cycle s)
  pub at : (image : LoadedImage) (shape : Shape) (t : ℕ) → IsImage image → IsShape shape → t ≤ 2 ^ 32 → IsMachine (state_at image shape t)
  -- a strike keeps it too, and a place in range stays so
  pub flip : (s : State) (p : Place) → IsMachine s → InRange s p → IsMachine (flip_at_place s p)
  pub place : (s : State) (p q : Place) → InRange s q → InRange (flip_at_place s p) q
