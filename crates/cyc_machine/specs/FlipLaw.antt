-- The law of strikes: what a flip at a place changes, for every state that a machine can be in.
use Rattle.std.specs.Prelude.{◌≡◌, ◌≢◌, ◌-◌}
use Rattle.bit_field.specs.declared.places.Place.{Place}
use Rattle.cyc_machine.specs.Facts.{IsMachine}
use Rattle.cyc_machine.specs.State.{State}
use Rattle.cyc_machine.specs.Strikes.{InRange, bit_at_place, flip_at_place}

-- the bit at that place
abbrev pub FlipsThatBit : Type 0
FlipsThatBit =
    (s : State) (p : Place) → IsMachine s → InRange s p → bit_at_place (flip_at_place s p) p ≡ 1 - bit_at_place s p

-- no bit at another place
abbrev pub FlipsNoOther : Type 0
FlipsNoOther =
    (s : State) (p q : Place) → IsMachine s → InRange s p → InRange s q → (p.structure ≡ q.structure → q.bit ≢ p.bit)
    → bit_at_place (flip_at_place s p) q ≡ bit_at_place s q

-- two flips restore the state
abbrev pub FlipsBack : Type 0
FlipsBack = (s : State) (p : Place) → IsMachine s → InRange s p → flip_at_place (flip_at_place s p) p ≡ s
