-- What a cycle reads of the cache: nothing of an invalid line slot.
use Rattle.std.proofs.Common.{◌≡◌, ℕ, ◌/◌, ◌%◌, Bool, true, false, List, refl, sym, ap, ◌∙◌}
use Rattle.std.specs.Prelude.{Option, Some, None, ◌==◌, ◌&&◌, not, if◌then◌else◌}
use Rattle.std.specs.Option.{option_map}
use Rattle.std.proofs.Math.Path.{fun_ext}
use Rattle.bit_field.specs.declared.shapes.Shape.{Shape}
use Rattle.rv_table.specs.declared.action.Action.{Action}
use Rattle.store_buf.specs.Entry.{Entry}
use Rattle.wb_cache.specs.Access.{found, word_at, word_of}
use Rattle.wb_cache.specs.Contents.{Contents, Slot, slots}
use Rattle.wb_cache.specs.Lookup.{holds, set_of, way_of}
use Rattle.wb_cache.specs.Refill.{way_for}
use Rattle.wb_cache.specs.Replacement.{first_invalid, replaced, victim, way_or}
use Rattle.wb_cache.proofs.Find.{first_below-same}
use Rattle.cyc_machine.specs.PortState.{PortState}
use Rattle.cyc_machine.specs.declared.port.Move.{Move}
use Rattle.cyc_machine.specs.declared.port.Move.TheVariants.{Rests, Reads, Drains, Misses, Waits, Leaves, Fills}
use Rattle.cyc_machine.specs.Cycle.{event_by}
use Rattle.cyc_machine.specs.Memory.{continues, drained_by, filled_by, is_dirty_victim, missed, move_of, owned_word, read_by, starts, word_read}
use Rattle.flush_view.specs.Ignored.{SameLines, read_of_slot}
use Rattle.wb_cache.proofs.Ways.{Slots, found-valid, way-same}

-- what is read of the slots
abbrev pub read_slots : Slots → Slots
read_slots cache set way = read_of_slot (cache set way)

pub slots-same : (a b : Contents) → SameLines a b → read_slots (slots a) ≡ read_slots (slots b)
slots-same a b same = fun_ext (λ set. fun_ext (λ way. same.slots set way))

valid-read : (slot : Slot) → (read_of_slot slot).valid ≡ slot.valid
valid-read slot = go slot.valid refl
  where
    go : (b : Bool) → slot.valid ≡ b → (read_of_slot slot).valid ≡ slot.valid
    go true is = rw is refl
    go false is = rw is refl

pub full-read : (slot : Slot) → slot.valid ≡ true → read_of_slot slot ≡ slot
full-read slot is = rw is refl

holds-read : (shape : Shape) (line : ℕ) (slot : Slot) → holds shape line (read_of_slot slot) ≡ holds shape line slot
holds-read shape line slot = go slot.valid refl
  where
    go : (b : Bool) → slot.valid ≡ b → holds shape line (read_of_slot slot) ≡ holds shape line slot
    go true is = rw is refl
    go false is = rw is refl

dirty-read : (slot : Slot) → ((read_of_slot slot).valid && (read_of_slot slot).dirty) ≡ (slot.valid && slot.dirty)
dirty-read slot = go slot.valid refl
  where
    go : (b : Bool) → slot.valid ≡ b → ((read_of_slot slot).valid && (read_of_slot slot).dirty) ≡ (slot.valid && slot.dirty)
    go true is = rw is refl
    go false is = rw is refl

-- ---- ways

way-read : (shape : Shape) (cache : Slots) (line : ℕ) → way_of shape (read_slots cache) line ≡ way_of shape cache line
way-read shape cache line = way-same shape (read_slots cache) cache line (λ w l. holds-read shape line (cache (set_of shape line) w))

-- a slot that was found is read whole
pub found-whole : (shape : Shape) (cache : Slots) (line w : ℕ) → way_of shape cache line ≡ Some w
    → read_of_slot (cache (set_of shape line) w) ≡ cache (set_of shape line) w
found-whole shape cache line w h = full-read (cache (set_of shape line) w) (found-valid shape cache line w h)

-- so is the word that is read of it
word-read : (shape : Shape) (cache : Slots) (line word : ℕ) (o : Option ℕ) → way_of shape cache line ≡ o
    → option_map (λ way. word_at (cache (set_of shape line) way) word) o
    ≡ option_map (λ way. word_at (read_slots cache (set_of shape line) way) word) o
word-read shape cache line word (Some w) h = ap (λ (slot : Slot). Some (word_at slot word)) (sym (found-whole shape cache line w h))
word-read shape cache line word None h = refl

victim-read : (shape : Shape) (cache : Slots) (nodes : List Bool) (set : ℕ) → victim shape (read_slots cache) nodes set ≡ victim shape cache nodes set
unfolding victim first_invalid
victim-read shape cache nodes set =
    ap (λ (o : Option ℕ). way_or o (replaced shape nodes set)) (first_below-same shape.ways _ _ (λ w l. ap not (valid-read (cache set w))))

module _ (a b : Contents) (same : SameLines a b) where
  pub found-same : (line : ℕ) → found a line ≡ found b line
  found-same line =
      sym (way-read a.shape (slots a) line)
      ∙ ap (λ (x : Slots). way_of a.shape x line) (slots-same a b same)
      ∙ ap (λ (x : Shape). way_of x (read_slots (slots b)) line) same.shape
      ∙ way-read b.shape (slots b) line

  pub way_for-same : (line : ℕ) → way_for a line ≡ way_for b line
  way_for-same line =
      sym (victim-read a.shape (slots a) a.nodes (set_of a.shape line))
      ∙ ap (λ (x : Slots). victim a.shape x a.nodes (set_of a.shape line)) (slots-same a b same)
      ∙ ap (λ (x : Shape). victim x (read_slots (slots b)) a.nodes (set_of x line)) same.shape
      ∙ ap (λ (x : List Bool). victim b.shape (read_slots (slots b)) x (set_of b.shape line)) same.nodes
      ∙ victim-read b.shape (slots b) b.nodes (set_of b.shape line)

  dirty-same : (line : ℕ) → is_dirty_victim a line ≡ is_dirty_victim b line
  dirty-same line =
      sym (dirty-read (slots a (set_of a.shape line) (way_for a line)))
      ∙ ap (λ (x : Slot). x.valid && x.dirty) (same.slots (set_of a.shape line) (way_for a line))
      ∙ dirty-read (slots b (set_of a.shape line) (way_for a line))
      ∙ ap (λ (x : Shape). (slots b (set_of x line) (way_for a line)).valid && (slots b (set_of x line) (way_for a line)).dirty) same.shape
      ∙ ap (λ (x : ℕ). (slots b (set_of b.shape line) x).valid && (slots b (set_of b.shape line) x).dirty) (way_for-same line)

  -- ---- the move

  missed-same : (line : ℕ) (owner : Bool) → missed a line owner ≡ missed b line owner
  missed-same line owner = rw (dirty-same line, way_for-same line) refl

  read_by-same : (word : ℕ) (o : Option ℕ) → read_by o a word ≡ read_by o b word
  read_by-same word (Some way) = refl
  read_by-same word None = missed-same (word / 4) false

  drained_by-same : (e : Entry) (o : Option ℕ) → drained_by o a e ≡ drained_by o b e
  drained_by-same e (Some way) = refl
  drained_by-same e None = missed-same (e.addr / 4) true

  starts-same : (load : Option ℕ) (store : Option Entry) → starts a load store ≡ starts b load store
  starts-same (Some word) store = read_by-same word (found a (word / 4)) ∙ ap (λ o. read_by o b word) (found-same (word / 4))
  starts-same None (Some e) = drained_by-same e (found a (e.addr / 4)) ∙ ap (λ o. drained_by o b e) (found-same (e.addr / 4))
  starts-same None None = refl

  filled_by-same : (line : ℕ) (o : Option ℕ) → filled_by o a line ≡ filled_by o b line
  filled_by-same line (Some way) = refl
  filled_by-same line None = ap (Fills line) (way_for-same line)

  continues-same : (count : ℕ) (o : Option ℕ) → continues count a o ≡ continues count b o
  continues-same count None = refl
  continues-same count (Some word) = rw (filled_by-same (word / 4) (found a (word / 4)), found-same (word / 4)) refl

  pub move-same : (port : PortState) (load : Option ℕ) (store : Option Entry) → move_of port a load store ≡ move_of port b load store
  unfolding move_of
  move-same port load store = go (port.count == 0)
    where
      go : (z : Bool) → (if z then starts a load store else continues port.count a (owned_word port.owner load store))
          ≡ (if z then starts b load store else continues port.count b (owned_word port.owner load store))
      go true = starts-same load store
      go false = continues-same port.count (owned_word port.owner load store)

  -- ---- the word that is read, and the event

  word-same : (line word : ℕ) → word_of a line word ≡ word_of b line word
  unfolding word_of
  word-same line word =
      word-read a.shape (slots a) line word (found a line) refl
      ∙ ap (λ (x : Slots). option_map (λ way. word_at (x (set_of a.shape line) way) word) (found a line)) (slots-same a b same)
      ∙ ap (λ (x : Shape). option_map (λ way. word_at (read_slots (slots b) (set_of x line) way) word) (found a line)) same.shape
      ∙ ap (λ (o : Option ℕ). option_map (λ way. word_at (read_slots (slots b) (set_of b.shape line) way) word) o) (found-same line)
      ∙ sym (word-read b.shape (slots b) line word (found b line) refl)

  pub word_read-lines : (v : Move) → word_read v a ≡ word_read v b
  unfolding word_read
  word_read-lines (Reads word way) = word-same (word / 4) (word % 4)
  word_read-lines Rests = refl
  word_read-lines (Drains e way) = refl
  word_read-lines (Misses line way count owner) = refl
  word_read-lines Waits = refl
  word_read-lines Leaves = refl
  word_read-lines (Fills line way) = refl

  pub event-lines : (v : Move) (m : Action) (cycle : ℕ) → event_by v m cycle a ≡ event_by v m cycle b
  event-lines (Reads word way) m cycle = rw same.shape refl
  event-lines (Drains e way) m cycle = rw same.shape refl
  event-lines (Misses line way count owner) m cycle = rw same.shape refl
  event-lines (Fills line way) m cycle = rw same.shape refl
  event-lines Rests m cycle = refl
  event-lines Waits m cycle = refl
  event-lines Leaves m cycle = refl
