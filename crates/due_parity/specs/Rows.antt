-- How rows of notes grow in a cycle. No clause of a public call speaks of it.
use Rattle.std.specs.Prelude.{◌≡◌, ℕ, ◌*◌, ◌-◌, ◌/◌, ◌%◌, ◌&&◌, Bool, true, false, nat_le, nat_lt, if◌then◌else◌}
use Rattle.std.specs.Prelude.{List, [], length, Option, slice_index_or}
use Rattle.bit_field.specs.declared.shapes.Shape.{Shape}
use Rattle.wb_cache.specs.declared.event.CacheEvent.{CacheEvent}
use Rattle.event_log.specs.Events.{holds_byte}
use Rattle.slot_history.specs.Histories.{Histories, held_in}
use Rattle.slot_history.specs.declared.changes.Held.{Held}
use Rattle.slot_history.specs.declared.changes.Held.TheVariants.{Vacant, Clean, Dirty}
use Rattle.cyc_machine.specs.Run.{with_one}
use Rattle.due_parity.specs.Notes.{noted}
use Rattle.due_parity.specs.Touches.{byte_touch_by, byte_touch_with}
use Rattle.due_parity.specs.declared.touch.Touch.{Touch}
use Rattle.due_parity.specs.declared.watched.Noted.{Noted}

-- what a cycle does to the groups from lo to before hi is noted, and the other rows are the same
pub record IsNotedIn (touches : ℕ → Touch) (cycle lo hi : ℕ) (old new : List (List Noted)) : Type 0 where
  pub groups : length new ≡ length old
  pub row : (g : ℕ) → slice_index_or new g []
      ≡ (if nat_le lo g && nat_lt g hi then with_one (slice_index_or old g []) (noted (touches g) cycle) else slice_index_or old g [])

abbrev pub is_dirty : Held → Bool
is_dirty Vacant = false
is_dirty (Clean line) = false
is_dirty (Dirty line) = true

-- what an event of a slot does to a byte of it
abbrev pub slot_touch : CacheEvent → ℕ → Bool → ℕ → Touch
slot_touch e slot dirty g = byte_touch_by e.kind (holds_byte (g - 16 * slot) e) dirty

-- what the event of a cycle does to a byte, by what a table says of the slots
abbrev pub event_touch : Shape → Histories → ℕ → Option CacheEvent → ℕ → Touch
event_touch shape slots cycle event g = byte_touch_with shape (is_dirty (held_in slots (g / 16) cycle)) (g / 16) (g % 16) event
