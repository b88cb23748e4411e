-- What line slots hold in a run, as lists of the cycles whose events change it, and what is asked of the lists.
use Rattle.std.specs.Prelude.{◌≡◌, ℕ, ◌+◌, min, List, [], Option, Some, None, slice_index_or, length, All}
use Rattle.bit_field.specs.Shapes.{IsShape, slots}
use Rattle.bit_field.specs.declared.shapes.Shape.{Shape}
use Rattle.change_list.specs.Lists.{IsRising, first_from, value_before}
use Rattle.change_list.specs.declared.changes.Change.{Change}
use Rattle.slot_history.specs.declared.changes.Held.{Held}
use Rattle.slot_history.specs.declared.changes.Held.TheVariants.{Vacant}

-- what a slot holds before cycle t: it is vacant at reset
abbrev pub held_at : List (Change Held) → ℕ → Held
held_at changes t = value_before Vacant changes t

-- the cycle from which a change shows: the one after its event's, as far as 32 bits go
abbrev pub shows_from : Option (Change Held) → ℕ
shows_from None = 4294967295
shows_from (Some c) = min (c.cycle + 1) 4294967295

-- the changes of each slot of a cache
pub record Histories : Type 0 where
  pub shape : Shape
  pub changes : List (List (Change Held))

unfoldable pub held_in : Histories → ℕ → ℕ → Held
held_in table l t = held_at (slice_index_or table.changes l []) t

unfoldable pub next_change : Histories → ℕ → ℕ → ℕ
next_change table l t = shows_from (first_from t (slice_index_or table.changes l []))

pub record IsHistories (table : Histories) : Type 0 where
  pub shape : IsShape table.shape
  pub changes : length table.changes ≡ slots table.shape
  pub rising : All IsRising table.changes
