-- How the changes of a slot grow with its events. No clause of a public call speaks of it.
use Rattle.std.specs.Prelude.{ℕ, ◌==◌, Bool, false, List, [], ◌∷◌, ◌++◌, if◌then◌else◌}
use Rattle.wb_cache.specs.declared.event.CacheEvent.{CacheEvent}
use Rattle.wb_cache.specs.declared.event.EventKind.{EventKind}
use Rattle.wb_cache.specs.declared.event.EventKind.TheVariants.{Read, Write, Miss, Fill}
use Rattle.change_list.specs.Lists.{change, last_value}
use Rattle.change_list.specs.declared.changes.Change.{Change}
use Rattle.slot_history.specs.declared.changes.Held.{Held}
use Rattle.slot_history.specs.declared.changes.Held.TheVariants.{Vacant, Clean, Dirty}

-- what a slot holds after all changes
abbrev pub latest : List (Change Held) → Held
latest changes = last_value Vacant changes

-- The changes with one event more of the slot. A fill leaves its line, clean, and a write its line, dirty; a write of a line that is
-- dirty changes nothing.
abbrev pub is_dirty : Held → ℕ → Bool
is_dirty Vacant line = false
is_dirty (Clean n) line = false
is_dirty (Dirty n) line = n == line

abbrev pub changed : ℕ → Held → List (Change Held) → List (Change Held)
changed cycle held changes = changes ++ change cycle held ∷ []

abbrev pub written : ℕ → ℕ → List (Change Held) → List (Change Held)
written cycle line changes = if is_dirty (latest changes) line then changes else changed cycle (Dirty line) changes

abbrev pub noted_by : EventKind → ℕ → ℕ → List (Change Held) → List (Change Held)
noted_by Read cycle line changes = changes
noted_by Write cycle line changes = written cycle line changes
noted_by Miss cycle line changes = changes
noted_by Fill cycle line changes = changed cycle (Clean line) changes

abbrev pub noted : CacheEvent → List (Change Held) → List (Change Held)
noted e changes = noted_by e.kind e.cycle e.line changes

abbrev pub noted_if : Bool → CacheEvent → List (Change Held) → List (Change Held)
noted_if test e changes = if test then noted e changes else changes
