-- The lists that a run leaves, by line and by line slot, and what they answer.
use Rattle.std.specs.Prelude.{◌≡◌, ⊤, ℕ, ◌<◌, ◌≤◌, min, Bool, true, false, nat_le, List, [], Option, Some, None, length, slice_index_or, All}
use Rattle.std.specs.BTreeMap.{is_at}
use Rattle.std.specs.Map.{lookup}
use Rattle.std.specs.Option.{unwrap_or}
use Rattle.std.specs.Ordering.{nat_cmp}
use Rattle.bit_field.specs.Shapes.{IsShape, slots}
use Rattle.bit_field.specs.declared.shapes.Shape.{Shape}
use Rattle.rv_isa.specs.declared.effect.Retired.{Retired}
use Rattle.wb_cache.specs.declared.event.CacheEvent.{CacheEvent}
use Rattle.event_log.specs.Cycles.{IsRising, first_from}
use Rattle.event_log.specs.Lookups.{looked_up}
use Rattle.tag_dist.specs.Lines.{last_access}

pub record Tables : Type 0 where
  pub shape : Shape
  pub last : List (ℕ × ℕ)  -- of each accessed line the last instruction that accesses it
  pub asked : List (ℕ × List ℕ)  -- of each line of an event the cycles of its events
  pub filled : List (List ℕ)  -- of each line slot the cycles in which it is filled

-- the last instruction that accesses a line
abbrev pub last_in : List (ℕ × ℕ) → ℕ → Option ℕ
last_in last line = lookup (is_at (nat_cmp line)) last

-- the cycles of a line's events
abbrev pub asked_in : List (ℕ × List ℕ) → ℕ → List ℕ
asked_in asked line = unwrap_or (lookup (is_at (nat_cmp line)) asked) []

abbrev pub IsRisingAt : List (ℕ × List ℕ) → ℕ → Type 0
IsRisingAt asked line = IsRising (asked_in asked line)

-- the first cycle from t on in which a line is asked for
abbrev pub first_asked : List (ℕ × List ℕ) → ℕ → ℕ → Option ℕ
first_asked asked line t = first_from t (asked_in asked line)

-- whether a cycle comes, and another one not before it
abbrev pub comes_by : Option ℕ → Option ℕ → Bool
comes_by None fill = false
comes_by (Some cycle) None = true
comes_by (Some cycle) (Some fill) = nat_le cycle fill

unfoldable pub looked_up_in : Tables → ℕ → ℕ → ℕ → Bool
looked_up_in table l line t = comes_by (first_asked table.asked line t) (first_from t (slice_index_or table.filled l []))

-- the earlier of two cycles, where they come
abbrev pub earlier : Option ℕ → Option ℕ → Option ℕ
earlier None other = other
earlier (Some cycle) None = Some cycle
earlier (Some cycle) (Some other) = Some (min cycle other)

-- the first cycle from t on in which a line is asked for or line slot l is filled
unfoldable pub next_asked : Tables → ℕ → ℕ → ℕ → Option ℕ
next_asked table l line t = earlier (first_asked table.asked line t) (first_from t (slice_index_or table.filled l []))

-- cycle u isn't behind another one, if that comes
abbrev pub IsBy : ℕ → Option ℕ → Type 0
IsBy u None = ⊤
IsBy u (Some cycle) = u ≤ cycle

-- there is a list for each line slot, and all lists are in rising order
pub record IsTables (table : Tables) : Type 0 where
  pub shape : IsShape table.shape
  pub filled : length table.filled ≡ slots table.shape
  pub rising : All IsRising table.filled
  pub rises : (line : ℕ) → IsRisingAt table.asked line

-- the lists answer what the events and the instructions of a run say, which is on a cache of this shape
pub record IsTableOf (events : List CacheEvent) (entries : List Retired) (cache : Shape) (table : Tables) : Type 0 where
  pub shape : table.shape ≡ cache
  pub accesses : (line : ℕ) → last_in table.last line ≡ last_access line entries
  pub lookups : (l line t : ℕ) → l < slots cache → looked_up_in table l line t ≡ looked_up cache l line t events
