-- What is known of the tables of a run that tell of the data of its cache, and what the code asks of them.
use Rattle.std.specs.Prelude.{◌≡◌, ◌≤◌, ◌<◌, ◌+◌, ◌*◌, ◌↔◌, ◌&&◌, ⊤, ℕ, Bool, true, false, nat_le}
use Rattle.std.specs.Prelude.{List, Option, Some, None, length, slice_get, if◌then◌else◌}
use Rattle.bit_field.specs.declared.places.Place.{Place}
use Rattle.bit_field.specs.declared.shapes.Shape.{Shape}
use Rattle.need_pass.specs.Tables.{Needs}
use Rattle.event_log.specs.declared.next.Next.{Next}
use Rattle.event_log.specs.declared.next.Next.TheVariants.{Read, Overwritten, Beside, Evicted, Ends}
use Rattle.line_life.specs.Lives.{IsLifeOf, Lives}
use Rattle.slot_history.specs.HeldBefore.{IsSlotTable}
use Rattle.slot_history.specs.Histories.{Histories, held_in}
use Rattle.slot_history.specs.declared.changes.Held.{Held}
use Rattle.slot_history.specs.declared.changes.Held.TheVariants.{Vacant, Clean, Dirty}
use Rattle.ace_class.specs.declared.class.Class.{Class}
use Rattle.ace_class.specs.declared.class.Class.TheVariants.{Ace, UnAce}
use Rattle.ace_class.specs.declared.class.Rule.TheVariants.{EmptyPlace, DeadData, CleanData}
use Rattle.ace_law.specs.Classes.{IsClass}
use Rattle.ace_law.specs.Moments.{IsQuiet, IsTold}
use Rattle.ace_rules.specs.Asked.{is_dead}
use Rattle.ace_rules.specs.Notes.{IsNote, Story, moment}
use Rattle.ace_rules.specs.declared.note.Note.{Note}

-- The tables are those of the run: a note of each cycle, the first quiet cycle, what next concerns each byte, and what each line slot
-- holds.
pub record AreDataTables (story : Story) (table : Needs) (notes : List Note) (quiet : ℕ) (cache : Shape) (lives : Lives)
    (lines : Histories) : Type 0 where
  pub told : IsTold story.r story.run table
  pub cycles : length notes ≡ story.r.cycles
  pub each : (t : ℕ) (note : Note) → slice_get notes t ≡ Some note → IsNote (moment story t) table note
  pub silent : (t : ℕ) → t < story.r.cycles → (quiet ≤ t) ↔ IsQuiet (moment story t)
  pub shape : cache ≡ story.r.shape
  pub life : IsLifeOf story.r.events story.r.shape story.r.cycles lives
  pub slots : IsSlotTable story.r.events story.r.shape lines

pub record AreSomeDataTables (table : Needs) (notes : List Note) (quiet : ℕ) (cache : Shape) (lives : Lives)
    (lines : Histories) : Type 0 where
  pub story : Story
  pub tables : AreDataTables story table notes quiet cache lives lines

-- this is the class of the bit in cycle t, whatever run the tables are of
abbrev pub IsDataClass : Class → Needs → List Note → ℕ → Shape → Lives → Histories → ℕ → Place → Type 0
IsDataClass class table notes quiet cache lives lines t p =
    (story : Story) → AreDataTables story table notes quiet cache lives lines → IsClass class (moment story t) p

-- ---- What the code asks. No clause of a public call speaks of it.

-- the slot's line is dirty, and bit j of its byte o is dead
unfoldable pub is_dead_line : Needs → Note → Held → ℕ → ℕ → Bool
is_dead_line needs note Vacant o j = false
is_dead_line needs note (Clean line) o j = false
is_dead_line needs note (Dirty line) o j = is_dead needs note 0 (16 * line + o) j

-- in a cycle, if it comes and this is the note of it
unfoldable pub is_dead_in : Needs → ℕ → Histories → ℕ → ℕ → ℕ → ℕ → Option Note → Bool
is_dead_in needs quiet lines l o j t None = true
is_dead_in needs quiet lines l o j t (Some note) = nat_le quiet t && is_dead_line needs note (held_in lines l t) o j

-- by what next concerns the byte, the bit is not read
unfoldable pub is_unread : Needs → List Note → ℕ → Histories → ℕ → ℕ → ℕ → Next → Bool
is_unread needs notes quiet lines l o j (Read c) = false
is_unread needs notes quiet lines l o j (Overwritten c) = true
is_unread needs notes quiet lines l o j (Beside c) = is_dead_in needs quiet lines l o j (c + 1) (slice_get notes (c + 1))
is_unread needs notes quiet lines l o j (Evicted c) = true
is_unread needs notes quiet lines l o j Ends = true

-- a write beside the byte comes in a cycle of the run
abbrev pub IsNextBelow : ℕ → Next → Type 0
IsNextBelow n (Read c) = ⊤
IsNextBelow n (Overwritten c) = ⊤
IsNextBelow n (Beside c) = c < n
IsNextBelow n (Evicted c) = ⊤
IsNextBelow n Ends = ⊤

-- the class of a bit of a slot's data, by what the slot holds and whether the bit is dead or unread
unfoldable pub data_class : Held → Bool → Bool → Class
data_class Vacant dead unread = UnAce EmptyPlace
data_class (Clean line) dead unread = if unread then UnAce CleanData else Ace
data_class (Dirty line) dead unread = if dead then UnAce DeadData else Ace

abbrev pub data_class_in : Needs → List Note → ℕ → Histories → ℕ → ℕ → ℕ → ℕ → Held → Next → Class
data_class_in needs notes quiet lines t l o j held next =
    data_class held (is_dead_in needs quiet lines l o j t (slice_get notes t)) (is_unread needs notes quiet lines l o j next)
