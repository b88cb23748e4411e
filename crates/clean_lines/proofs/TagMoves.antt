-- The tag of a clean line slot is another one: the line that decides what the port does is found alike, and what a move makes of the cache.
use Rattle.std.proofs.Common.{◌≡◌, ◌≢◌, ◌⊎◌, inl, inr, ℕ, ◌+◌, ◌*◌, ◌/◌, ◌<◌, Bool, true, false, cond, List, refl, sym, ◌∙◌, ap}
use Rattle.std.specs.Prelude.{⊤, Option, Some, None, ◌==◌, ◌&&◌, nat_lt, slice_index, slice_index_or, slice_range, slice_set, if◌then◌else◌}
use Rattle.std.proofs.lemmas.Bool.{cases_eq, eq-eqb}
use Rattle.std.proofs.lemmas.List.{get_or-set_other, set-set, set_comm}
use Rattle.bit_field.specs.Shapes.{slots as slot_count}
use Rattle.elf_load.specs.Image.{LoadedImage}
use Rattle.rv_table.specs.declared.action.Action.{Action}
use Rattle.store_buf.specs.Entry.{Entry}
use Rattle.wb_cache.specs.Access.{found, put, read, written as written_word}
use Rattle.wb_cache.specs.Changes.{set_at}
use Rattle.wb_cache.specs.Contents.{Contents, IsSized, slot_at, slot_of}
use Rattle.wb_cache.specs.Lookup.{line_of, set_of, tag_of}
use Rattle.wb_cache.specs.Refill.{filled, memory_refilled, put_line, refilled, way_for, written_back}
use Rattle.wb_cache.specs.declared.event.CacheEvent.{CacheEvent}
use Rattle.wb_cache.proofs.Hits.{read-hit, written-hit}
use Rattle.cyc_machine.specs.Cycle.{event_by}
use Rattle.cyc_machine.specs.Memory.{continues, drained_by, filled_by, move_of, owned_word, read_by, starts}
use Rattle.cyc_machine.specs.PortState.{PortState}
use Rattle.cyc_machine.specs.declared.port.Move.TheVariants.{Waits}
use Rattle.clean_lines.proofs.Moves.{Agree, line_asked, line_owned, line_started}
use Rattle.clean_lines.proofs.OtherTags.{found-tags, ways-tags}
use Rattle.clean_lines.proofs.Lists.{not_back}

-- an event, if there is one, of neither of two lines
abbrev pub Apart : ℕ → ℕ → Option CacheEvent → Type 0
Apart line near None = ⊤
Apart line near (Some e) = (e.line ≢ line) × (e.line ≢ near)

module _ (c : Contents) (l tag : ℕ) (sized : IsSized c) (below : l < slot_count c.shape) where
  abbrev d : Contents
  d = record c { tags = slice_set c.tags l tag }

  abbrev line : ℕ
  line = line_of c.shape (set_at c.shape l) (slot_at c l).tag

  abbrev near : ℕ
  near = line_of c.shape (set_at c.shape l) tag

  -- ---- the line that is asked for is that of the event

  alike : (m : ℕ) → (m ≢ line) × (m ≢ near) → found d m ≡ found c m
  alike m h = found-tags c l tag sized below m h.0 h.1

  read-line : (m : Action) (n word : ℕ) (o : Option ℕ) → Apart line near (event_by (read_by o c word) m n c) → (word / 4 ≢ line) × (word / 4 ≢ near)
  read-line m n word (Some way) h = h
  read-line m n word None h = h

  drained-line : (m : Action) (n : ℕ) (e : Entry) (o : Option ℕ) → Apart line near (event_by (drained_by o c e) m n c)
      → (e.addr / 4 ≢ line) × (e.addr / 4 ≢ near)
  drained-line m n e (Some way) h = h
  drained-line m n e None h = h

  started : (m : Action) (n : ℕ) (load : Option ℕ) (store : Option Entry) → Apart line near (event_by (starts c load store) m n c)
      → Agree d c (line_started load store)
  started m n (Some word) store h = alike (word / 4) (read-line m n word (found c (word / 4)) h)
  started m n None (Some e) h = alike (e.addr / 4) (drained-line m n e (found c (e.addr / 4)) h)
  started m n None None h = tt

  filled-line : (m : Action) (n word : ℕ) (o : Option ℕ) → o ≡ None → Apart line near (event_by (filled_by o c (word / 4)) m n c)
      → (word / 4 ≢ line) × (word / 4 ≢ near)
  filled-line m n word (Some way) e h = absurd cc
  filled-line m n word None e h = h

  owned-line : (m : Action) (n count word : ℕ) → found c (word / 4) ≡ None → Apart line near (event_by (continues count c (Some word)) m n c)
      → Agree d c (line_owned count (Some word))
  owned-line m n count word missing h = go (nat_lt 1 count) h
    where
      go : (t : Bool) → Apart line near (event_by (if t then Waits else filled_by (found c (word / 4)) c (word / 4)) m n c)
          → Agree d c (if t then None else Some (word / 4))
      go true h = tt
      go false h = alike (word / 4) (filled-line m n word (found c (word / 4)) missing h)

  owned : (m : Action) (n count : ℕ) (o : Option ℕ) (word : ℕ) → o ≡ Some word → found c (word / 4) ≡ None
      → Apart line near (event_by (continues count c o) m n c) → Agree d c (line_owned count o)
  owned m n count None word e missing h = tt
  owned m n count (Some w) word e missing h =
      let same : word ≡ w = cc in owned-line m n count w (ap (λ v. found c (v / 4)) (sym same) ∙ missing) h

  -- a busy port works for a client whose line is missing
  pub agree-asked : (m : Action) (n : ℕ) (port : PortState) (load : Option ℕ) (store : Option Entry)
      → (port.count ≢ 0 → (word : ℕ) × (owned_word port.owner load store ≡ Some word) × (found c (word / 4) ≡ None))
      → Apart line near (event_by (move_of port c load store) m n c) → Agree d c (line_asked port load store)
  unfolding move_of
  agree-asked m n port load store busy h = go (port.count == 0) refl h
    where
      go : (z : Bool) → (port.count == 0) ≡ z
          → Apart line near (event_by (if z then starts c load store else continues port.count c (owned_word port.owner load store)) m n c)
          → Agree d c (if z then line_started load store else line_owned port.count (owned_word port.owner load store))
      go true e h = started m n load store h
      go false e h =
          let b = busy (λ zero. let f : (port.count == 0) ≡ true = eq-eqb port.count 0 zero in cc) in
          owned m n port.count (owned_word port.owner load store) b.0 b.1 b.2 h

  -- ---- what a move makes of the cache

  pub read-tags : (m way : ℕ) → found d m ≡ Some way → found c m ≡ Some way → read m d ≡ record (read m c) { tags = slice_set (read m c).tags l tag }
  read-tags m way e f =
      read-hit d m way (sym e) ∙ sym (ap (λ (a : Contents). record a { tags = slice_set a.tags l tag }) (read-hit c m way (sym f)))

  pub read-tag : (m way : ℕ) → found c m ≡ Some way → slice_index (read m c).tags l ≡ slice_index c.tags l
  read-tag m way f = ap (λ (a : Contents). slice_index a.tags l) (read-hit c m way (sym f))

  pub written-tags : (m word mask value way : ℕ) → found d m ≡ Some way → found c m ≡ Some way
      → written_word m word mask value d ≡ record (written_word m word mask value c) { tags = slice_set (written_word m word mask value c).tags l tag }
  unfolding put
  written-tags m word mask value way e f =
      written-hit d m word mask value way (sym e)
      ∙ sym (ap (λ (a : Contents). record a { tags = slice_set a.tags l tag }) (written-hit c m word mask value way (sym f)))

  pub written-tag : (m word mask value way : ℕ) → found c m ≡ Some way → slice_index (written_word m word mask value c).tags l ≡ slice_index c.tags l
  unfolding put
  written-tag m word mask value way f = ap (λ (a : Contents). slice_index a.tags l) (written-hit c m word mask value way (sym f))

  module _ (image : LoadedImage) (memory : List ℕ) (clean : slice_index_or c.dirty l false ≡ false) where
    back-tags : (set way : ℕ) → written_back image set way d memory ≡ written_back image set way c memory
    unfolding written_back
    back-tags set way = go (cases_eq (slot_of c.shape set way) l)
      where
        go : (slot_of c.shape set way ≡ l) ⊎ (slot_of c.shape set way ≢ l) → written_back image set way d memory ≡ written_back image set way c memory
        go (inl e) =
            let none : slice_index_or c.dirty (slot_of c.shape set way) false ≡ false = ap (λ i. slice_index_or c.dirty i false) e ∙ clean in
            unfold written_back in (not_back (slice_index_or c.valid (slot_of c.shape set way) false)
            (slice_index_or c.dirty (slot_of c.shape set way) false) _ memory none
            ∙ sym (not_back (slice_index_or c.valid (slot_of c.shape set way) false) (slice_index_or c.dirty (slot_of c.shape set way) false) _ memory none))
        go (inr ne) =
            unfold written_back in ap (λ t. cond
            (slice_index_or c.valid (slot_of c.shape set way) false && slice_index_or c.dirty (slot_of c.shape set way) false)
            (put_line image (line_of c.shape set t) (slice_range c.bytes (16 * slot_of c.shape set way) (16 * slot_of c.shape set way + 16)) memory) memory)
            (get_or-set_other c.tags l (slot_of c.shape set way) tag 0 ne)

    pub memory-tags : (m : ℕ) → memory_refilled image m d memory ≡ memory_refilled image m c memory
    unfolding memory_refilled
    memory-tags m = ap (λ w. written_back image (set_of c.shape m) w d memory) (ways-tags c l tag sized below m) ∙ back-tags (set_of c.shape m) (way_for c m)

    refilled-by : (m : ℕ) (f : List ℕ → List ℕ)
        → slice_set (slice_set c.tags l tag) (slot_of c.shape (set_of c.shape m) (way_for c m)) (tag_of c.shape m)
        ≡ f (slice_set c.tags (slot_of c.shape (set_of c.shape m) (way_for c m)) (tag_of c.shape m))
        → refilled image m memory d ≡ record (refilled image m memory c) { tags = f (refilled image m memory c).tags }
    unfolding refilled filled
    refilled-by m f e =
        ap (λ w. filled image m w (memory_refilled image m d memory) d) (ways-tags c l tag sized below m)
        ∙ ap (λ (xs : List ℕ). filled image m (way_for c m) xs d) (memory-tags m)
        ∙ ap (λ (ts : List ℕ). record (filled image m (way_for c m) (memory_refilled image m c memory) c) { tags = ts }) e

    pub refilled-tags : (m : ℕ) → slot_of c.shape (set_of c.shape m) (way_for c m) ≢ l
        → refilled image m memory d ≡ record (refilled image m memory c) { tags = slice_set (refilled image m memory c).tags l tag }
    refilled-tags m ne =
        refilled-by m (λ ts. slice_set ts l tag)
        (set_comm c.tags l (slot_of c.shape (set_of c.shape m) (way_for c m)) tag (tag_of c.shape m) (λ e. ne (sym e)))

    pub refilled-tag : (m : ℕ) → slot_of c.shape (set_of c.shape m) (way_for c m) ≢ l → slice_index (refilled image m memory c).tags l ≡ slice_index c.tags l
    unfolding refilled filled
    refilled-tag m ne = get_or-set_other c.tags (slot_of c.shape (set_of c.shape m) (way_for c m)) l (tag_of c.shape m) 0 (λ e. ne (sym e))

    pub refilled-same : (m : ℕ) → slot_of c.shape (set_of c.shape m) (way_for c m) ≡ l → refilled image m memory d ≡ refilled image m memory c
    refilled-same m e =
        refilled-by m (λ ts. ts)
        (ap (λ i. slice_set (slice_set c.tags i tag) (slot_of c.shape (set_of c.shape m) (way_for c m)) (tag_of c.shape m)) (sym e)
        ∙ set-set c.tags (slot_of c.shape (set_of c.shape m) (way_for c m)) tag (tag_of c.shape m))
