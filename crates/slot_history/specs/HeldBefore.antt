-- What a line slot holds before a cycle, as the events of a run tell it, and that the machine's cache holds just that.
use Rattle.std.specs.Prelude.{◌≡◌, ◌<◌, ◌≤◌, ℕ, nat_lt, List, filter}
use Rattle.bit_field.specs.Shapes.{IsShape, slots as slot_count}
use Rattle.bit_field.specs.declared.shapes.Shape.{Shape}
use Rattle.elf_load.specs.Image.{LoadedImage, IsImage}
use Rattle.wb_cache.specs.declared.event.CacheEvent.{CacheEvent}
use Rattle.cyc_machine.specs.EventsLaw as machine
use Rattle.cyc_machine.specs.EventsLaw.{IsHeld, held_behind}
use Rattle.cyc_machine.specs.EventsLaw.Held.{Vacant, Clean, Dirty}
use Rattle.cyc_machine.specs.Run.{events_below, state_at}
use Rattle.slot_history.specs.Histories.{Histories, held_in}
use Rattle.slot_history.specs.declared.changes.Held.{Held}
use Rattle.slot_history.specs.declared.changes.Held.TheVariants.{Vacant as HoldsNone, Clean as HoldsClean, Dirty as HoldsDirty}

-- what slot l holds before cycle t: nothing at reset, and then what the events of the cycles below t make of it
unfoldable pub held_before : Shape → ℕ → ℕ → List CacheEvent → machine.Held
held_before shape l t events = held_behind shape l Vacant (filter (λ e. nat_lt e.cycle t) events)

-- what the table's answer says, in the words of the machine's law
abbrev pub told : Held → machine.Held
told HoldsNone = Vacant
told (HoldsClean line) = Clean line
told (HoldsDirty line) = Dirty line

-- a table that tells of each slot of a cache what these events do
pub record IsSlotTable (events : List CacheEvent) (cache : Shape) (table : Histories) : Type 0 where
  pub shape : table.shape ≡ cache
  pub held : (l t : ℕ) → l < slot_count cache → told (held_in table l t) ≡ held_before cache l t events

-- In a run of n cycles the slot holds before each cycle what the events of the run tell.
abbrev pub HeldBeforeLaw : Type 0
HeldBeforeLaw = (image : LoadedImage) (shape : Shape) (n t l : ℕ) → IsImage image → IsShape shape → t ≤ n → l < slot_count shape
    → IsHeld (state_at image shape t).cache l (held_before shape l t (events_below image shape n))
