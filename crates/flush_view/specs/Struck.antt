-- What a strike does to the view, to coherence and to the flush: fields that they don't read, a line slot replaced by another, and a
-- slot of the store buffer replaced by another.
use Rattle.std.specs.Prelude.{◌≡◌, suc, ℕ, ◌/◌, ◌%◌, ◌<◌, Bool, true, false, List, drop, length, slice_set, None}
use Rattle.bit_field.specs.declared.shapes.Shape.{Shape}
use Rattle.elf_load.specs.Image.{in_ram}
use Rattle.rv_isa.specs.Instruction.{Log}
use Rattle.predictor.specs.Tables.{Tables}
use Rattle.store_buf.specs.Covers.{found}
use Rattle.store_buf.specs.Entry.{Entry as Pending}
use Rattle.store_buf.specs.Pending.{pending, slot_of}
use Rattle.wb_cache.specs.Changes.{put_slot}
use Rattle.wb_cache.specs.Contents.{Contents, Slot, slots}
use Rattle.wb_cache.specs.Lookup.{holds, set_of}
use Rattle.cyc_machine.specs.PortState.{PortState}
use Rattle.cyc_machine.specs.State.{State}
use Rattle.flush_view.specs.Coherence.{IsCoherent}
use Rattle.flush_view.specs.Flush.{flush}
use Rattle.flush_view.specs.Views.{over, view}

-- ---- what is not read

-- u has the view and the flush of s, and is coherent where s is
pub record MeansSame (s u : State) : Type 0 where
  pub view : view u ≡ view s
  pub coherent : (out : ℕ → Bool) → IsCoherent out s → IsCoherent out u
  pub flush : (clocks : List ℕ) (log : Log) → flush u clocks log ≡ flush s clocks log

-- s with another fetch address, other tables of the predictor, another port, another count in ID/EX and another order of use of the
-- ways
abbrev pub retimed : ℕ → Tables → PortState → ℕ → List Bool → State → State
retimed pc tables port count nodes s =
    record s { pc = pc; tables = tables; port = port; d = record s.d { count = count }; cache = record s.cache { nodes = nodes } }

-- ---- a line slot is replaced

-- A slot of a set replaced by another. Of the lines that aren't in X the new slot holds none but the old one's, with its bytes, and is
-- clean only where the old one was; and one that it no longer holds was clean.
pub record Replaces (shape : Shape) (out : ℕ → Bool) (set : ℕ) (old new : Slot) : Type 0 where
  pub held : (line : ℕ) → set_of shape line ≡ set → out line ≡ false → holds shape line new ≡ true → holds shape line old ≡ true
  pub bytes : (line o : ℕ) → set_of shape line ≡ set → out line ≡ false → holds shape line new ≡ true → o < 16 → new.bytes o ≡ old.bytes o
  pub clean : (line : ℕ) → set_of shape line ≡ set → out line ≡ false → holds shape line new ≡ true → new.dirty ≡ false → old.dirty ≡ false
  pub gone : (line : ℕ) → set_of shape line ≡ set → out line ≡ false → holds shape line old ≡ true → holds shape line new ≡ false → old.dirty ≡ false

-- every line of the set that the slot holds is in X
abbrev pub IsOut : Shape → (ℕ → Bool) → ℕ → Slot → Type 0
IsOut shape out set slot = (line : ℕ) → set_of shape line ≡ set → holds shape line slot ≡ true → out line ≡ true

-- s with other contents of the cache
abbrev pub with_cache : Contents → State → State
with_cache contents s = record s { cache = contents }

-- these contents are those of s but for the slot of a way of a set
pub record IsReplaced (s : State) (contents : Contents) (set way : ℕ) (new : Slot) : Type 0 where
  pub shape : contents.shape ≡ s.cache.shape
  pub within : way < s.cache.shape.ways
  pub slots : slots contents ≡ put_slot set way new (slots s.cache)

-- u is coherent outside X, and its view is that of s outside X
pub record SameOutside (out : ℕ → Bool) (s u : State) : Type 0 where
  pub coherent : IsCoherent out u
  pub view : (p : ℕ) → out (p / 16) ≡ false → view u p ≡ view s p

-- A slot replaced by one with other bytes. `seen` is whatever is seen of a byte, as one of its bits.
pub record OtherBytes (s : State) (contents : Contents) (set way : ℕ) (bytes : ℕ → ℕ) : Type 0 where
  -- a dirty slot leaves the cache coherent,
  pub coherent : (slots s.cache set way).dirty ≡ true → (out : ℕ → Bool) → IsCoherent out s → IsCoherent out (with_cache contents s)
  -- and the view of a byte changes only where the slot holds its line, and no pending store holds the byte
  pub view : (seen : ℕ → ℕ) (p : ℕ)
      → (found (pending s.stores) (p / 4) (p % 4) ≡ None → set_of s.cache.shape (p / 16) ≡ set
      → holds s.cache.shape (p / 16) (slots s.cache set way) ≡ true
      → seen (bytes (p % 16)) ≡ seen ((slots s.cache set way).bytes (p % 16)))
      → seen (view (with_cache contents s) p) ≡ seen (view s p)

-- ---- a slot of the store buffer is replaced

-- s with another store in slot i of the store buffer: altered, removed (its mask is 0), or inserted where the slot was free
abbrev pub with_store : ℕ → Pending → State → State
with_store i e s = record s { stores = slice_set s.stores i e }

pub record OtherStore (s : State) (i : ℕ) (e : Pending) : Type 0 where
  -- coherence doesn't read the store buffer,
  pub coherent : (out : ℕ → Bool) → IsCoherent out s → IsCoherent out (with_store i e s)
  -- and the view of a byte changes only where the two stores write it differently, and no store behind slot i holds it
  pub view : (seen : ℕ → ℕ) (p : ℕ)
      → (in_ram s.image p ≡ true → found (drop (suc i) s.stores) (p / 4) (p % 4) ≡ None → (below : ℕ)
      → seen (over e p below) ≡ seen (over (slot_of s.stores i) p below))
      → seen (view (with_store i e s) p) ≡ seen (view s p)

-- ---- the laws

pub record StruckLaws : Type 0 where
  pub unread : (s : State) (pc : ℕ) (tables : Tables) (port : PortState) (count : ℕ) (nodes : List Bool)
      → MeansSame s (retimed pc tables port count nodes s)
  pub replaced : (out : ℕ → Bool) (s : State) (contents : Contents) (set way : ℕ) (new : Slot) → IsReplaced s contents set way new
      → Replaces s.cache.shape out set (slots s.cache set way) new → IsCoherent out s → SameOutside out s (with_cache contents s)
  pub bytes : (s : State) (contents : Contents) (set way : ℕ) (bytes : ℕ → ℕ)
      → IsReplaced s contents set way (record (slots s.cache set way) { bytes = bytes }) → OtherBytes s contents set way bytes
  pub store : (s : State) (i : ℕ) (e : Pending) → i < length s.stores → OtherStore s i e
