-- What next concerns a byte of a line slot. Slot l is that of set l / ways and way l % ways.
use Rattle.std.specs.Prelude.{ℕ, ◌&&◌, Bool, true, false, List}
use Rattle.std.specs.Option.{option_map_or}
use Rattle.bit_field.specs.declared.shapes.Shape.{Shape}
use Rattle.wb_cache.specs.declared.event.CacheEvent.{CacheEvent}
use Rattle.wb_cache.specs.declared.event.EventKind.{EventKind}
use Rattle.wb_cache.specs.declared.event.EventKind.TheVariants.{Read, Write, Miss, Fill}
use Rattle.event_log.specs.Events.{first_event, holds_byte, is_of_slot}
use Rattle.event_log.specs.declared.next.Next.{Next}
use Rattle.event_log.specs.declared.next.Next.TheVariants.{Read as IsRead, Overwritten, Beside, Evicted, Ends}

-- Which kinds of events in its slot concern a byte, by whether their lanes hold it: a read of the byte, any write and any fill.
abbrev pub concerns_by : EventKind → Bool → Bool
concerns_by Read held = held
concerns_by Write held = true
concerns_by Fill held = true
concerns_by Miss held = false

abbrev pub concerns : Shape → ℕ → ℕ → CacheEvent → Bool
concerns shape l byte e = is_of_slot shape l e && concerns_by e.kind (holds_byte byte e)

-- what an event that concerns the byte does to it
abbrev pub told_by : EventKind → Bool → ℕ → Next
told_by Read held cycle = IsRead cycle
told_by Write true cycle = Overwritten cycle
told_by Write false cycle = Beside cycle
told_by Fill held cycle = Evicted cycle
told_by Miss held cycle = Ends

-- the first event from cycle t on that concerns byte `byte`, 0 to 15, of slot l
unfoldable pub next_of : Shape → ℕ → ℕ → ℕ → List CacheEvent → Next
next_of shape l byte t events =
    option_map_or (λ e. told_by e.kind (holds_byte byte e) e.cycle) (first_event (concerns shape l byte) t events) Ends
