-- The lists that a run's events leave, by line slot and by byte, and what they answer.
use Rattle.std.specs.Prelude.{◌≡◌, ℕ, ◌+◌, ◌*◌, ◌/◌, ◌%◌, ◌<◌, ◌==◌, ◌&&◌, Bool, true, false, nat_lt, List, [], Option, Some, None, if◌then◌else◌}
use Rattle.std.specs.Prelude.{slice_index_or, length, All}
use Rattle.bit_field.specs.Shapes.{IsShape, slots}
use Rattle.bit_field.specs.declared.shapes.Shape.{Shape}
use Rattle.bit_field.specs.Lanes.{has_lane}
use Rattle.wb_cache.specs.declared.event.CacheEvent.{CacheEvent}
use Rattle.wb_cache.specs.declared.event.EventKind.{EventKind}
use Rattle.wb_cache.specs.declared.event.EventKind.TheVariants.{Read, Write, Miss, Fill}
use Rattle.event_log.specs.Cycles as cycles
use Rattle.event_log.specs.Events.{holds_byte}
use Rattle.event_log.specs.Nexts.{next_of, told_by}
use Rattle.change_list.specs.Lists as lists
use Rattle.change_list.specs.Lists.{change}
use Rattle.change_list.specs.declared.changes.Change.{Change}
use Rattle.line_life.specs.declared.changes.Effect.{Effect}
use Rattle.event_log.specs.declared.next.Next.{Next}
use Rattle.event_log.specs.declared.next.Next.TheVariants.{Read as IsRead, Ends}

abbrev pub changes_slot : EventKind → Bool
changes_slot Read = false
changes_slot Write = true
changes_slot Fill = true
changes_slot Miss = false

abbrev pub is_read : EventKind → Bool
is_read Read = true
is_read Write = false
is_read Fill = false
is_read Miss = false

-- what an event does to its slot, and the change that a write or a fill makes
abbrev pub effect_of : CacheEvent → Effect
effect_of e = record { word = e.word; mask = e.mask; kind = e.kind }

abbrev pub change_of : CacheEvent → Change Effect
change_of e = change e.cycle (effect_of e)

-- whether an event changes its slot, and whether it reads a byte of its line
abbrev pub is_change : CacheEvent → Bool
is_change e = changes_slot e.kind

abbrev pub reads_byte : ℕ → CacheEvent → Bool
reads_byte byte e = is_read e.kind && holds_byte byte e

-- whether a byte of the line is in a word of it and in the lanes of a mask
abbrev pub is_held : ℕ → ℕ → ℕ → Bool
is_held word mask byte = word == byte / 4 && has_lane mask (byte % 4)

-- what a change does to a byte of its slot
abbrev pub told_change : ℕ → Change Effect → Next
told_change byte c = told_by c.value.kind (is_held c.value.word c.value.mask byte) c.cycle

-- of the next read of a byte and the next change of its slot the one that comes first
abbrev pub sooner : ℕ → Option ℕ → Option (Change Effect) → Next
sooner byte None None = Ends
sooner byte (Some cycle) None = IsRead cycle
sooner byte None (Some change) = told_change byte change
sooner byte (Some cycle) (Some change) = if nat_lt change.cycle cycle then told_change byte change else IsRead cycle

pub record Lives : Type 0 where
  pub shape : Shape
  pub cycles : ℕ  -- of the run
  pub reads : List (List ℕ)  -- the cycles in which byte `byte` of slot l is read, at 16 l + byte
  pub changes : List (List (Change Effect))  -- of each slot

unfoldable pub next_in : Lives → ℕ → ℕ → ℕ → Next
next_in life l byte t =
    sooner byte (cycles.first_from t (slice_index_or life.reads (16 * l + byte) [])) (lists.first_from t (slice_index_or life.changes l []))

-- there is a list for each byte of each slot and one for each slot, all in rising order
pub record IsLives (life : Lives) : Type 0 where
  pub shape : IsShape life.shape
  pub reads : length life.reads ≡ 16 * slots life.shape
  pub changes : length life.changes ≡ slots life.shape
  pub rising : All cycles.IsRising life.reads
  pub rises : All lists.IsRising life.changes

-- the lists answer what the events of a run say, which is on a cache of this shape and has so many cycles
pub record IsLifeOf (events : List CacheEvent) (cache : Shape) (end : ℕ) (life : Lives) : Type 0 where
  pub shape : life.shape ≡ cache
  pub cycles : life.cycles ≡ end
  pub next : (l byte t : ℕ) → l < slots cache → byte < 16 → next_in life l byte t ≡ next_of cache l byte t events
