-- Up to which cycle the class of a bit stays, by what is kept of a run.
use Rattle.std.specs.Prelude.{◌≡◌, ℕ, true, false, ◌+◌, ◌*◌, ◌≤◌, ◌<◌, ◌==◌, ◌&&◌, not, min, nat_le, List, length, Option, Some, slice_get}
use Rattle.std.specs.Prelude.{if◌then◌else◌}
use Rattle.std.specs.Int.{bit_at}
use Rattle.std.specs.List.Sorted.{IsNonDecreasingBy}
use Rattle.bit_field.specs.declared.places.Place.{Place}
use Rattle.bit_field.specs.declared.shapes.Shape.{Shape}
use Rattle.event_log.specs.Lookups.{distance_one}
use Rattle.event_log.specs.declared.next.Next.{Next}
use Rattle.event_log.specs.declared.next.Next.TheVariants.{Read, Overwritten, Beside, Evicted, Ends}
use Rattle.line_life.specs.Lives.{Lives, next_in}
use Rattle.need_pass.specs.Histories.{IsUpTo}
use Rattle.need_pass.specs.Tables.{Needs, byte_need}
use Rattle.run_record.specs.Run.{RecordedRun}
use Rattle.slot_history.specs.Histories.{Histories}
use Rattle.slot_history.specs.declared.changes.Held.{Held}
use Rattle.slot_history.specs.declared.changes.Held.TheVariants.{Vacant, Clean, Dirty}
use Rattle.tag_dist.specs.Tables.{Tables, last_in, looked_up_in}
use Rattle.wb_cache.specs.Changes.{set_at}
use Rattle.ace_class.specs.declared.class.Class.{Class}
use Rattle.ace_law.specs.Classes.{IsClass}
use Rattle.ace_rules.specs.Analyses.{IsAnalysis}
use Rattle.ace_rules.specs.Asked.{is_accessed_again, is_later, is_pending_line, retired_by, written_from}
use Rattle.ace_rules.specs.Notes.{Story, moment}
use Rattle.ace_rules.specs.declared.note.Note.{Note}

-- the bit at a place has another class in one cycle than in another
abbrev pub HasAnotherClass : Story → Place → ℕ → ℕ → Type 0
HasAnotherClass story place from until =
    (class : Class) → IsClass class (moment story from) place → IsClass class (moment story until) place → ⊥

-- whatever class the bit at a place has in one cycle, it has in the later ones of the run up to before another
abbrev pub Stays : Story → Place → ℕ → ℕ → Type 0
Stays story place from until =
    (class : Class) (t : ℕ) → from < t → t < until → t < story.r.cycles → IsClass class (moment story from) place
    → IsClass class (moment story t) place

-- this is a cycle up to before which it stays, whatever run this is the record of and what this is kept of
abbrev pub IsStay : RecordedRun → Needs → List Note → ℕ → Lives → Tables → Histories → Place → ℕ → ℕ → Type 0
IsStay r table notes quiet life tags slots place from until =
    (story : Story) (words : List ℕ) → story.r ≡ r → IsAnalysis story table notes words quiet life tags slots → Stays story place from until

-- ---- What the code asks. No clause of a public call speaks of it. The greatest number of 32 bits is no cycle of a run.

abbrev pub no_cycle : ℕ
no_cycle = 4294967295

-- what is known of the notes of a run: ever more instructions have left the memory stage
pub record AreInOrder (notes : List Note) : Type 0 where
  pub few : length notes < no_cycle
  pub rising : IsNonDecreasingBy retired_by notes

-- up to which cycle it stays so whether a cycle is quiet
unfoldable pub quiet_until : ℕ → ℕ → ℕ
quiet_until quiet t = if nat_le quiet t then no_cycle else quiet

-- the cycle after that in which something next concerns a byte
unfoldable pub after : Next → ℕ
after (Read c) = min (c + 1) no_cycle
after (Overwritten c) = min (c + 1) no_cycle
after (Beside c) = min (c + 1) no_cycle
after (Evicted c) = min (c + 1) no_cycle
after Ends = no_cycle

-- in the cycles below this one no instruction behind the last one, if there is a last one, is the next to leave the memory stage
abbrev pub IsBeforePast : List Note → Option ℕ → ℕ → Type 0
IsBeforePast notes last until = (t : ℕ) (note : Note) → t < until → slice_get notes t ≡ Some note → IsUpTo (retired_by note) last

-- In the cycles from that of the note up to before this one bit j of a byte is dead, or isn't: the same bits of the byte are needed
-- throughout, and the bit isn't one that is needed while a store to its byte is pending.
pub record StaysDead (needs : Needs) (notes : List Note) (note : Note) (p j until : ℕ) : Type 0 where
  pub free : 0 < until → (written_from note.stores 0 p && bit_at (byte_need needs p (retired_by note)) j == 1) ≡ false
  pub same : (t i : ℕ) (other : Note) → t < until → slice_get notes t ≡ Some other → retired_by note ≤ i → i ≤ retired_by other
      → byte_need needs p i ≡ byte_need needs p (retired_by note)

-- in them a line is accessed again, or isn't: the last instruction that accesses it doesn't leave the memory stage, or no more accesses it
pub record StaysAccessed (tags : Tables) (notes : List Note) (note : Note) (line until : ℕ) : Type 0 where
  pub later : is_later (last_in tags.last line) (retired_by note) ≡ true → (t : ℕ) (other : Note) → t < until → slice_get notes t ≡ Some other
      → is_later (last_in tags.last line) (retired_by other) ≡ true
  pub free : is_later (last_in tags.last line) (retired_by note) ≡ false → 0 < until → is_pending_line note.stores line ≡ false

-- and it stays so whether the cycle is quiet
pub record StaysUnaccessed (tags : Tables) (notes : List Note) (note : Note) (quiet line from until : ℕ) : Type 0 where
  pub silent : until ≤ quiet_until quiet from
  pub accessed : StaysAccessed tags notes note line until

-- the same answer whether the cache looks a line up before the slot is filled
abbrev pub StaysLookedUp : Tables → ℕ → ℕ → ℕ → ℕ → Type 0
StaysLookedUp tags l line from until = (t : ℕ) → from ≤ t → t < until → looked_up_in tags l line t ≡ looked_up_in tags l line from

-- Up to which cycle the class of a bit of a line slot stays, by what the slot holds up to cycle `change`.

-- bit j of byte p of a dirty line: in a cycle that isn't quiet it is ACE
pub record IsDirtyDataUntil (needs : Needs) (notes : List Note) (note : Note) (quiet p j from until : ℕ) : Type 0 where
  pub loud : nat_le quiet from ≡ false → until ≤ quiet
  pub still : nat_le quiet from ≡ true → StaysDead needs notes note p j until

abbrev pub IsDataUntil : Needs → List Note → Note → ℕ → Lives → ℕ → ℕ → ℕ → ℕ → ℕ → Held → ℕ → Type 0
IsDataUntil needs notes note quiet life l o j from change Vacant until = until ≤ change
IsDataUntil needs notes note quiet life l o j from change (Clean line) until = (until ≤ change) × (until ≤ after (next_in life l o from))
IsDataUntil needs notes note quiet life l o j from change (Dirty line) until =
    (until ≤ change) × IsDirtyDataUntil needs notes note quiet (16 * line + o) j from until

-- a bit of a clean line's tag: where the line at distance one isn't accessed again in a quiet cycle, that stays so
pub record IsCleanTagUntil (tags : Tables) (notes : List Note) (note : Note) (quiet l line near from until : ℕ) : Type 0 where
  pub same : (nat_le quiet from && not (is_accessed_again tags note near)) ≡ false → StaysUnaccessed tags notes note quiet near from until
      × StaysLookedUp tags l line from until
      × StaysLookedUp tags l near from until

abbrev pub IsTagUntil : Tables → List Note → Note → ℕ → Shape → ℕ → ℕ → ℕ → ℕ → Held → ℕ → Type 0
IsTagUntil tags notes note quiet shape l j from change Vacant until = until ≤ change
IsTagUntil tags notes note quiet shape l j from change (Clean line) until =
    (until ≤ change) × IsCleanTagUntil tags notes note quiet l line (distance_one shape line j) from until
IsTagUntil tags notes note quiet shape l j from change (Dirty line) until =
    (until ≤ change) × StaysUnaccessed tags notes note quiet line from until
    × StaysUnaccessed tags notes note quiet (distance_one shape line j) from until

abbrev pub IsValidUntil : Tables → List Note → Note → ℕ → Shape → ℕ → ℕ → ℕ → Held → ℕ → Type 0
IsValidUntil tags notes note quiet shape l from change Vacant until =
    (until ≤ change) × StaysUnaccessed tags notes note quiet (set_at shape l) from until
IsValidUntil tags notes note quiet shape l from change (Clean line) until = (until ≤ change) × (until ≤ quiet_until quiet from)
IsValidUntil tags notes note quiet shape l from change (Dirty line) until =
    (until ≤ change) × StaysUnaccessed tags notes note quiet line from until

abbrev pub IsDirtyUntil : Tables → List Note → Note → ℕ → ℕ → ℕ → Held → ℕ → Type 0
IsDirtyUntil tags notes note quiet from change Vacant until = until ≤ change
IsDirtyUntil tags notes note quiet from change (Clean line) until = (until ≤ change) × (until ≤ quiet_until quiet from)
IsDirtyUntil tags notes note quiet from change (Dirty line) until =
    (until ≤ change) × StaysUnaccessed tags notes note quiet line from until
