-- Which lines a cache looks up, and which line it can take for another. A line is a byte address divided by 16.
use Rattle.std.specs.Prelude.{ℕ, ◌^◌, ◌==◌, ◌&&◌, Bool, true, false, nat_le, List, Option, Some, None, bit_xor}
use Rattle.bit_field.specs.declared.shapes.Shape.{Shape}
use Rattle.wb_cache.specs.Lookup.{line_of, set_of, tag_of}
use Rattle.wb_cache.specs.declared.event.CacheEvent.{CacheEvent}
use Rattle.wb_cache.specs.declared.event.EventKind.{EventKind}
use Rattle.wb_cache.specs.declared.event.EventKind.TheVariants.{Read, Write, Miss, Fill}
use Rattle.event_log.specs.Events.{first_event, is_of_slot}

-- The line at distance one in bit j of the tag: the tag has that bit changed, and the set is the same.
abbrev pub distance_one : Shape → ℕ → ℕ → ℕ
distance_one shape line j = line_of shape (set_of shape line) (bit_xor (tag_of shape line) (2 ^ j))

-- whether an event is a look-up or a fill of a line
abbrev pub has_line : ℕ → CacheEvent → Bool
has_line line e = e.line == line

-- whether an event fills line slot l
abbrev pub is_fill : EventKind → Bool
is_fill Read = false
is_fill Write = false
is_fill Miss = false
is_fill Fill = true

abbrev pub fills : Shape → ℕ → CacheEvent → Bool
fills shape l e = is_of_slot shape l e && is_fill e.kind

-- whether an event comes, and another one not before it
abbrev pub is_by : Option CacheEvent → Option CacheEvent → Bool
is_by None fill = false
is_by (Some e) None = true
is_by (Some e) (Some fill) = nat_le e.cycle fill.cycle

-- An event with the line comes in a cycle from t on, up to and with the first fill into slot l from then on.
unfoldable pub looked_up : Shape → ℕ → ℕ → ℕ → List CacheEvent → Bool
looked_up shape l line t events = is_by (first_event (has_line line) t events) (first_event (fills shape l) t events)
