-- What the events of the cache tell: the cycles and the slots that they name, what each of them does to its slot, and that nothing
-- else changes a slot.
use Rattle.std.specs.Prelude.{◌≡◌, ◌≤◌, ◌<◌, ◌+◌, ◌==◌, ℕ, true, false, List, [], ◌∷◌, Option, Some, None, All, AllPairs, if◌then◌else◌}
use Rattle.std.specs.Option.{ForSome}
use Rattle.bit_field.specs.declared.shapes.Shape.{Shape}
use Rattle.bit_field.specs.Shapes.{IsShape, slots as slot_count}
use Rattle.elf_load.specs.Image.{LoadedImage, IsImage, ram_byte}
use Rattle.store_buf.specs.Entry.{Entry}
use Rattle.store_buf.specs.Pending.{oldest, pending}
use Rattle.wb_cache.specs.Access.{found}
use Rattle.wb_cache.specs.Changes.{filled_slot, put_slot, set_at, slot_written_back, written_slot}
use Rattle.wb_cache.specs.Contents.{Contents, Slot, slot_at, slot_of, slots}
use Rattle.wb_cache.specs.Lookup.{line_of, set_of}
use Rattle.wb_cache.specs.Refill.{way_for}
use Rattle.wb_cache.specs.declared.event.CacheEvent.{CacheEvent}
use Rattle.wb_cache.specs.declared.event.EventKind.{EventKind}
use Rattle.wb_cache.specs.declared.event.EventKind.TheVariants.{Read, Write, Miss, Fill}
use Rattle.cyc_machine.specs.Cycle.{event_in}
use Rattle.cyc_machine.specs.Run.{events_after, state_after, state_at, events_below}
use Rattle.cyc_machine.specs.Sizes.{IsSteady}
use Rattle.cyc_machine.specs.State.{State}

-- One cycle.

-- the value that the oldest pending store writes
abbrev pub value_drained : Option Entry → ℕ
value_drained (Some e) = e.value
value_drained None = 0

-- The slots after an event, or after none. A write sets its lanes and the dirty bit of its slot; a fill puts its line there, clean, with
-- the bytes of main memory after the cycle. A read and a miss change nothing, and no event changes another slot.
abbrev pub slots_by_kind : EventKind → CacheEvent → Shape → ℕ → (ℕ → ℕ) → (ℕ → ℕ → Slot) → ℕ → ℕ → Slot
slots_by_kind Read e shape value ram cache = cache
slots_by_kind Write e shape value ram cache = put_slot e.set e.way (written_slot e.word e.mask value (cache e.set e.way)) cache
slots_by_kind Miss e shape value ram cache = cache
slots_by_kind Fill e shape value ram cache = put_slot e.set e.way (filled_slot shape ram e.line) cache

abbrev pub slots_by : Option CacheEvent → Shape → ℕ → (ℕ → ℕ) → (ℕ → ℕ → Slot) → ℕ → ℕ → Slot
slots_by None shape value ram cache = cache
slots_by (Some e) shape value ram cache = slots_by_kind e.kind e shape value ram cache

-- main memory after an event: a fill writes the slot's old line back where it was valid and dirty
abbrev pub memory_by_kind : EventKind → CacheEvent → LoadedImage → Shape → (ℕ → ℕ → Slot) → (ℕ → ℕ) → ℕ → ℕ
memory_by_kind Fill e image shape cache ram = slot_written_back image shape e.set (cache e.set e.way) ram
memory_by_kind _ e image shape cache ram = ram

abbrev pub memory_by : Option CacheEvent → LoadedImage → Shape → (ℕ → ℕ → Slot) → (ℕ → ℕ) → ℕ → ℕ
memory_by None image shape cache ram = ram
memory_by (Some e) image shape cache ram = memory_by_kind e.kind e image shape cache ram

-- what an event tells of its line before the cycle: a read and a write found it in their way; a miss and a fill didn't find it, and
-- name the way that it takes
abbrev pub FindsBy : EventKind → Contents → ℕ → ℕ → Type 0
FindsBy Read c line way = found c line ≡ Some way
FindsBy Write c line way = found c line ≡ Some way
FindsBy Miss c line way = (found c line ≡ None) × (way ≡ way_for c line)
FindsBy Fill c line way = (found c line ≡ None) × (way ≡ way_for c line)

-- an event in the cycle of this number, before which the cache is c
pub record IsEventOf (number : ℕ) (c : Contents) (e : CacheEvent) : Type 0 where
  pub cycle : e.cycle ≡ number
  pub set : e.set ≡ set_of c.shape e.line
  pub set_within : e.set < c.shape.sets
  pub way_within : e.way < c.shape.ways
  pub word_within : e.word < 4
  pub finds : FindsBy e.kind c e.line e.way

pub record EventLaw (s next : State) : Type 0 where
  pub event : ForSome (event_in s) (IsEventOf s.cycle s.cache)
  pub lines : slots next.cache ≡ slots_by (event_in s) s.cache.shape (value_drained (oldest (pending s.stores))) (ram_byte next.image next.memory)
      (slots s.cache)
  pub memory : ram_byte next.image next.memory ≡ memory_by (event_in s) s.image s.cache.shape (slots s.cache) (ram_byte s.image s.memory)

-- Many cycles.

-- The events of n cycles from s: at most one a cycle, in rising order of cycles, each in a set and a way of the cache.
pub record EventsLaw (n : ℕ) (s : State) : Type 0 where
  pub rising : AllPairs (λ d e. d.cycle < e.cycle) (events_after n s)
  pub from : All (λ e. s.cycle ≤ e.cycle) (events_after n s)
  pub below : All (λ e. e.cycle < s.cycle + n) (events_after n s)
  pub lines : All (λ e. e.set ≡ set_of s.cache.shape e.line) (events_after n s)
  pub sets : All (λ e. e.set < s.cache.shape.sets) (events_after n s)
  pub ways : All (λ e. e.way < s.cache.shape.ways) (events_after n s)

-- What a line slot holds, as the events tell it: nothing, or a line, clean or dirty.
pub data Held : Type 0 where
  Vacant : Held
  Clean : (line : ℕ) → Held
  Dirty : (line : ℕ) → Held

abbrev pub held_by : EventKind → ℕ → Held → Held
held_by Read line before = before
held_by Write line before = Dirty line
held_by Miss line before = before
held_by Fill line before = Clean line

-- after an event, for slot l
abbrev pub held_after : Shape → ℕ → CacheEvent → Held → Held
held_after shape l e before = if slot_of shape e.set e.way == l then held_by e.kind e.line before else before

-- after the events of a list, in order
unfoldable pub held_behind : Shape → ℕ → Held → List CacheEvent → Held
held_behind shape l before [] = before
held_behind shape l before (e ∷ events) = held_behind shape l (held_after shape l e before) events

-- slot l of the cache holds so
abbrev pub IsHeld : Contents → ℕ → Held → Type 0
IsHeld c l Vacant = (slot_at c l).valid ≡ false
IsHeld c l (Clean line) = ((slot_at c l).valid ≡ true) × ((slot_at c l).dirty ≡ false) × (line ≡ line_of c.shape (set_at c.shape l) (slot_at c l).tag)
IsHeld c l (Dirty line) = ((slot_at c l).valid ≡ true) × ((slot_at c l).dirty ≡ true) × (line ≡ line_of c.shape (set_at c.shape l) (slot_at c l).tag)

-- What the events of n cycles tell of a slot is what it holds then; and at reset it holds nothing.
pub record HeldLaw : Type 0 where
  pub runs : (n : ℕ) (s : State) (l : ℕ) (before : Held) → IsSteady s → l < slot_count s.cache.shape → IsHeld s.cache l before
      → IsHeld (state_after n s).cache l (held_behind s.cache.shape l before (events_after n s))
  pub reset : (image : LoadedImage) (shape : Shape) (t l : ℕ) → IsImage image → IsShape shape → l < slot_count shape
      → IsHeld (state_at image shape t).cache l (held_behind shape l Vacant (events_below image shape t))
