-- Cycles with a flipped bit of a protected structure, beside the same cycles without the flip: in step until the bit's group is read.
use Rattle.std.specs.Prelude.{◌≡◌, ◌<◌, ⊤, ℕ}
use Rattle.bit_field.specs.declared.places.Place.{Place}
use Rattle.cyc_machine.specs.Cycle.{cycle}
use Rattle.cyc_machine.specs.Run.{state_after}
use Rattle.cyc_machine.specs.Sizes.{IsSteady}
use Rattle.cyc_machine.specs.State.{State}
use Rattle.cyc_machine.specs.Strikes.{InRange, flip_at_place}
use Rattle.clean_lines.specs.CleanCycle.{SameCycle}
use Rattle.clean_lines.specs.CleanRun.{SameCycles}
use Rattle.due_parity.specs.Touches.{IsProtected, touch}
use Rattle.due_parity.specs.declared.touch.Touch.{Touch}
use Rattle.due_parity.specs.declared.touch.Touch.TheVariants.{Untouched, ReadOut, Renewed}

-- One cycle, by what it does to the group of the flipped bit. Where it leaves the group alone the flip stays the only difference, and
-- where it makes it anew there is none any more. Where it reads the group nothing is said.
abbrev pub StruckCycleBy : State → Place → Touch → Type 0
StruckCycleBy s p Untouched = SameCycle s (flip_at_place s p) × (cycle (flip_at_place s p) ≡ flip_at_place (cycle s) p)
StruckCycleBy s p Renewed = SameCycle s (flip_at_place s p) × (cycle (flip_at_place s p) ≡ cycle s)
StruckCycleBy s p ReadOut = ⊤

-- the first n cycles leave the group alone
abbrev pub UntouchedFor : ℕ → State → Place → Type 0
UntouchedFor n s p = (i : ℕ) → i < n → touch (state_after i s) p ≡ Untouched

-- cycle d is the first that touches the group, and this is what it does
pub record FirstTouch (s : State) (p : Place) (d : ℕ) (x : Touch) : Type 0 where
  pub before : UntouchedFor d s p
  pub here : touch (state_after d s) p ≡ x

-- the first n cycles are seen alike, and lead to states that differ by the flip alone
pub record StaysFlipped (n : ℕ) (s : State) (p : Place) : Type 0 where
  pub same : SameCycles n s (flip_at_place s p)
  pub state : state_after n (flip_at_place s p) ≡ flip_at_place (state_after n s) p

-- the first n cycles are seen alike, and lead to one state
pub record IsMended (n : ℕ) (s : State) (p : Place) : Type 0 where
  pub same : SameCycles n s (flip_at_place s p)
  pub state : state_after n (flip_at_place s p) ≡ state_after n s

-- The law of parity, of every state with the machine's sizes, whatever its structures hold.
pub record ParityLaw (s : State) (p : Place) : Type 0 where
  pub cycle : StruckCycleBy s p (touch s p)
  pub untouched : (n : ℕ) → UntouchedFor n s p → StaysFlipped n s p
  pub renewed : (d n : ℕ) → FirstTouch s p d Renewed → d < n → IsMended n s p

abbrev pub EachObeysParity : Type 0
EachObeysParity = (s : State) (p : Place) → IsSteady s → IsProtected p.structure → InRange s p → ParityLaw s p
