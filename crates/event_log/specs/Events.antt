-- The log of a cache: what happened to it in the cycles of a run, in order.
use Rattle.std.specs.Prelude.{ℕ, ◌/◌, ◌%◌, ◌<◌, ◌==◌, ◌&&◌, Bool, nat_le, List, Option, filter, find, map, All, AllPairs}
use Rattle.bit_field.specs.declared.shapes.Shape.{Shape}
use Rattle.bit_field.specs.Lanes.{has_lane}
use Rattle.wb_cache.specs.Contents.{slot_of}
use Rattle.wb_cache.specs.declared.event.CacheEvent.{CacheEvent}

-- The events of a run with a cache of this shape: in rising order of cycles, each in a set and a way of the cache.
pub record IsEventLog (shape : Shape) (events : List CacheEvent) : Type 0 where
  pub rising : AllPairs (λ d e. d.cycle < e.cycle) events
  pub sets : All (λ e. e.set < shape.sets) events
  pub ways : All (λ e. e.way < shape.ways) events

-- whether an event is one of line slot l
abbrev pub is_of_slot : Shape → ℕ → CacheEvent → Bool
is_of_slot shape l e = slot_of shape e.set e.way == l

-- whether a byte of the line, 0 to 15, is among those that the event reads or writes
abbrev pub holds_byte : ℕ → CacheEvent → Bool
holds_byte byte e = e.word == byte / 4 && has_lane e.mask (byte % 4)

-- the first event from cycle t on that passes a test
unfoldable pub first_event : (CacheEvent → Bool) → ℕ → List CacheEvent → Option CacheEvent
first_event test t events = find (λ e. nat_le t e.cycle && test e) events

-- the events that pass a test, and their cycles
unfoldable pub cycles_of : (CacheEvent → Bool) → List CacheEvent → List ℕ
cycles_of test events = map (λ e. e.cycle) (filter test events)
