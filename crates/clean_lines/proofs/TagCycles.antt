-- The cycle from a state with a struck tag bit of a clean line.
use Rattle.std.proofs.Common.{◌≡◌, ◌≢◌, ℕ, ◌+◌, ◌*◌, ◌/◌, ◌%◌, ◌^◌, ◌<◌, Bool, true, false, List, refl, sym, ◌∙◌, ap, subst}
use Rattle.std.specs.Prelude.{Option, Some, None, ◌==◌, ◌&&◌, bit_xor, slice_index, slice_index_or, slice_set, if◌then◌else◌}
use Rattle.std.proofs.lemmas.Bool.{eqb-true}
use Rattle.bit_field.specs.Shapes.{slots as slot_count, tag_bits}
use Rattle.bit_field.specs.declared.shapes.Shape.{Shape}
use Rattle.store_buf.specs.Entry.{Entry}
use Rattle.store_buf.specs.Pending.{pending}
use Rattle.wb_cache.specs.Bits.{flip_tag}
use Rattle.wb_cache.specs.Changes.{set_at}
use Rattle.wb_cache.specs.Contents.{Contents, slot_at, slot_of}
use Rattle.wb_cache.specs.Lookup.{line_of, set_of}
use Rattle.wb_cache.specs.Refill.{way_for}
use Rattle.wb_cache.specs.declared.event.CacheEvent.{CacheEvent}
use Rattle.wb_cache.proofs.Lines.{set_of_line, tag_of_line}
use Rattle.wb_cache.proofs.Sizes.{slot-split, tag_slot as tag_slot_below}
use Rattle.cyc_machine.specs.Busy.{WorksForMiss}
use Rattle.cyc_machine.specs.Cycle.{action_in_m, cycle, cycled, event_by, event_in, move, served_m}
use Rattle.cyc_machine.specs.EventsLaw.{Clean, Dirty, IsHeld}
use Rattle.cyc_machine.specs.Memory.{cache_after, load_client, memory_after, served, store_client, word_read}
use Rattle.cyc_machine.specs.Sizes.{IsSteady}
use Rattle.cyc_machine.specs.State.{State}
use Rattle.cyc_machine.specs.declared.port.Move.{Move}
use Rattle.cyc_machine.specs.declared.port.Move.TheVariants.{Rests, Reads, Drains, Misses, Waits, Leaves, Fills}
use Rattle.cyc_machine.proofs.RunsOn.{shape-next}
use Rattle.cyc_machine.proofs.Tells.{Tells, tells}
use Rattle.clean_lines.specs.CleanCycle.{IsApart, SameCycle, TagCycle, TagCycleBy, fills_in}
use Rattle.clean_lines.specs.Struck.{IsCleanSlot, near_line, tag_line, tag_slot, tag_struck}
use Rattle.clean_lines.proofs.BytesRead.{ReadsAlike, served-alike}
use Rattle.clean_lines.proofs.Moves.{move-same}
use Rattle.clean_lines.proofs.OtherCache.{cycle-other, same-other}
use Rattle.clean_lines.proofs.OtherTags.{bytes-tags, dirties-tags, found-here, ways-tags}
use Rattle.clean_lines.proofs.Stays.{clean-either, clean-held, held-cycle, held_then, line_at, other-slot}
use Rattle.clean_lines.proofs.TagMoves.{Apart, agree-asked, memory-tags, read-tag, read-tags, refilled-same, refilled-tag, refilled-tags, written-tag}
use Rattle.clean_lines.proofs.TagMoves.{written-tags}

module _ (s : State) (k : ℕ) (is : IsSteady s) (busy : s.port.count ≢ 0 → WorksForMiss s) (below : k < slot_count s.cache.shape * tag_bits s.cache.shape)
    (clean : IsCleanSlot s.cache (tag_slot s.cache k)) (apart : IsApart s k (event_in s)) where
  abbrev c : Contents
  c = s.cache

  abbrev width : ℕ
  width = tag_bits c.shape

  abbrev l : ℕ
  l = k / width

  abbrev flipped : ℕ → ℕ
  flipped v = bit_xor v (2 ^ (k % width))

  abbrev tag : ℕ
  tag = flipped (slice_index c.tags l)

  abbrev d : Contents
  d = record c { tags = slice_set c.tags l tag }

  abbrev load : Option ℕ
  load = load_client s.image (action_in_m s) (pending s.stores)

  abbrev store : Option Entry
  store = store_client s.image (pending s.stores)

  slot-below : l < slot_count c.shape
  slot-below = tag_slot_below c.shape k is.cache.shape below

  not-dirty : slice_index_or c.dirty l false ≡ false
  unfolding slot_at
  not-dirty = clean.clean

  set-below : set_at c.shape l < c.shape.sets
  set-below = (slot-split c.shape l is.cache.shape slot-below).0

  -- the line that the struck slot seems to hold
  near-is : near_line c k ≡ line_of c.shape (set_at c.shape l) tag
  unfolding slot_at
  near-is = rw (
    set_of_line c.shape.sets (set_at c.shape l) (slice_index c.tags l) set-below,
    tag_of_line c.shape.sets (set_at c.shape l) (slice_index c.tags l) set-below,
  ) refl

  apart-by : (o : Option CacheEvent) → IsApart s k o → Apart (line_of c.shape (set_at c.shape l) (slot_at c l).tag) (line_of c.shape (set_at c.shape l) tag) o
  apart-by None h = tt
  apart-by (Some e) h = (h.0, λ g. h.1 (g ∙ sym near-is))

  moves : move (record s { cache = d }) ≡ move s
  moves =
      move-same d c (ways-tags c l tag is.cache slot-below) (dirties-tags c l tag is.cache slot-below) s.port load store
      (agree-asked c l tag is.cache slot-below (action_in_m s) s.cycle s.port load store (λ h. let b =
      busy h in (b.word, b.client, b.missing)) (apart-by (event_in s) apart))

  told : Tells c load store (move s)
  told = tells s.port c load store

  told-struck : Tells d load store (move s)
  told-struck = subst (λ (v : Move). Tells d load store v) moves (tells s.port d load store)

  reads-by : (v : Move) → Tells c load store v → Tells d load store v → ReadsAlike d c (action_in_m s) v
  reads-by (Reads word way) t u = (u.1, t.1, refl, λ lane m on. bytes-tags c l tag is.cache slot-below (set_of c.shape (word / 4)) way (4 * (word % 4) + lane))
  reads-by Rests t u = tt
  reads-by (Drains e way) t u = tt
  reads-by (Misses line way count owner) t u = tt
  reads-by Waits t u = tt
  reads-by Leaves t u = tt
  reads-by (Fills line way) t u = tt

  serves : served_m (record s { cache = d }) ≡ served_m s
  serves =
      ap (λ (v : Move). served s.image (action_in_m s) (pending s.stores) (word_read v d)) moves
      ∙ served-alike s.image (action_in_m s) (pending s.stores) d c (move s) is.bytes.cache is.bytes.cache (reads-by (move s) told told-struck)

  same : SameCycle s (tag_struck k s)
  same = same-other s d moves serves refl

  record Keeps (v : Move) : Type 0 where
    cache : cache_after s.image v s.memory d ≡ record (cache_after s.image v s.memory c) { tags = slice_set (cache_after s.image v s.memory c).tags l tag }
    memory : memory_after s.image v d s.memory ≡ memory_after s.image v c s.memory
    tag : slice_index (cache_after s.image v s.memory c).tags l ≡ slice_index c.tags l

  record Settles (v : Move) : Type 0 where
    cache : cache_after s.image v s.memory d ≡ cache_after s.image v s.memory c
    memory : memory_after s.image v d s.memory ≡ memory_after s.image v c s.memory

  struck-tags : (ts : List ℕ) → slice_index ts l ≡ slice_index c.tags l → slice_set ts l tag ≡ flip_tag (tag_bits (cycle s).cache.shape) ts k
  struck-tags ts e = ap (λ v. slice_set ts l (flipped v)) (sym e) ∙ sym (ap (λ (sh : Shape). flip_tag (tag_bits sh) ts k) (shape-next s))

  next-tag : Keeps (move s) → slice_index (cycle s).cache.tags l ≡ slice_index c.tags l
  unfolding cycled
  next-tag h = h.tag

  struck-next : Keeps (move s) → record (cycle s) { cache = record (cycle s).cache { tags = slice_set (cycle s).cache.tags l tag } } ≡ tag_struck k (cycle s)
  struck-next h = ap (λ (ts : List ℕ). record (cycle s) { cache = record (cycle s).cache { tags = ts } }) (struck-tags (cycle s).cache.tags (next-tag h))

  unstruck : Keeps (move s) → cycle (tag_struck k s) ≡ record (cycle s) { cache = record (cycle s).cache { tags = slice_set (cycle s).cache.tags l tag } }
  unfolding cycled
  unstruck h =
      cycle-other s d moves serves
      ∙ ap (λ (a : Contents). record (cycle s) { cache = a; memory = memory_after s.image (move s) d s.memory }) h.cache
      ∙ ap (λ (m : List ℕ). record (cycle s) { cache = record (cycle s).cache { tags = slice_set (cycle s).cache.tags l tag }; memory = m }) h.memory

  kept : Keeps (move s) → cycle (tag_struck k s) ≡ tag_struck k (cycle s)
  kept h = unstruck h ∙ struck-next h

  line-next : Keeps (move s) → tag_line (cycle s).cache k ≡ tag_line c k
  unfolding slot_at
  line-next h =
      ap (λ (sh : Shape). line_of sh (set_at sh (k / tag_bits sh)) (slice_index (cycle s).cache.tags (k / tag_bits sh))) (shape-next s)
      ∙ ap (λ t. line_of c.shape (set_at c.shape l) t) (next-tag h)

  settled : Settles (move s) → cycle (tag_struck k s) ≡ cycle s
  unfolding cycled
  settled h =
      cycle-other s d moves serves
      ∙ ap (λ (a : Contents). record (cycle s) { cache = a; memory = memory_after s.image (move s) d s.memory }) h.cache
      ∙ ap (λ (m : List ℕ). record (cycle s) { memory = m }) h.memory

  -- ---- by the move

  abbrev Told : Move → Type 0
  Told v = TagCycleBy s k (fills_in c.shape l (event_by v (action_in_m s) s.cycle c))

  module _ (v : Move) (e : move s ≡ v) where
    held : IsHeld (cycle s).cache l (held_then s l (Clean (line_at c l)) (event_by v (action_in_m s) s.cycle c))
    held = subst (λ (v : Move). IsHeld (cycle s).cache l (held_then s l (Clean (line_at c l)) (event_by v (action_in_m s) s.cycle c))) e
        (held-cycle s l is slot-below clean)

    apart-here : IsApart s k (event_by v (action_in_m s) s.cycle c)
    apart-here = subst (λ (v : Move). IsApart s k (event_by v (action_in_m s) s.cycle c)) e apart

    struck-told : Tells d load store v
    struck-told = subst (λ (v : Move). Tells d load store v) e told-struck

    stays : Keeps v → IsCleanSlot (cycle s).cache l → TagCycleBy s k false
    stays h slot = let h = subst Keeps (sym e) h in (same, kept h, slot, line-next h)

    ends : Settles v → TagCycleBy s k true
    ends h = (same, settled (subst Settles (sym e) h))

  still : Keeps Rests × Keeps Waits × Keeps Leaves
  unfolding cache_after memory_after
  still = (
    record { cache = refl; memory = refl; tag = refl },
    record { cache = refl; memory = refl; tag = refl },
    record {
      cache = refl;
      memory =
          refl;
      tag = refl;
    },
  )

  missed : (m way count : ℕ) (owner : Bool) → Keeps (Misses m way count owner)
  unfolding cache_after memory_after
  missed m way count owner = record { cache = refl; memory = refl; tag = refl }

  -- an event that doesn't fill its slot
  no-fill : (a : Bool) → TagCycleBy s k false → TagCycleBy s k (a && false)
  no-fill true h = h
  no-fill false h = h

  keeps-read : (word way : ℕ) → Tells c load store (Reads word way) → Tells d load store (Reads word way) → Keeps (Reads word way)
  unfolding cache_after memory_after
  keeps-read word way t u = record {
    cache = read-tags c l tag is.cache slot-below (word / 4) way u.1 t.1;
    memory = refl;
    tag = read-tag c l tag is.cache slot-below (word / 4) way t.1;
  }

  keeps-write : (w : Entry) (way : ℕ) → Tells c load store (Drains w way) → Tells d load store (Drains w way) → Keeps (Drains w way)
  unfolding cache_after memory_after
  keeps-write w way t u = record {
    cache = written-tags c l tag is.cache slot-below (w.addr / 4) (w.addr % 4) w.mask w.value way u.1 t.1;
    memory = refl;
    tag = written-tag c l tag is.cache slot-below (w.addr / 4) (w.addr % 4) w.mask w.value way t.1;
  }

  keeps-fill : (m way : ℕ) → (slot_of c.shape (set_of c.shape m) (way_for c m) ≡ l → ⊥) → Keeps (Fills m way)
  unfolding cache_after memory_after
  keeps-fill m way off = record {
    cache = refilled-tags c l tag is.cache slot-below s.image s.memory not-dirty m off;
    memory = memory-tags c l tag is.cache slot-below s.image s.memory not-dirty m;
    tag = refilled-tag c l tag is.cache slot-below s.image s.memory not-dirty m off;
  }

  settles-fill : (m way : ℕ) → slot_of c.shape (set_of c.shape m) (way_for c m) ≡ l → Settles (Fills m way)
  unfolding cache_after memory_after
  settles-fill m way here = record {
    cache = refilled-same c l tag is.cache slot-below s.image s.memory not-dirty m here;
    memory = memory-tags c l tag is.cache slot-below s.image s.memory not-dirty m;
  }

  -- a write is of another slot, since it is of another line
  write-off : (w : Entry) (way : ℕ) (a : Bool) → (slot_of c.shape (set_of c.shape (w.addr / 4)) way == l) ≡ a → Tells c load store (Drains w way)
      → IsApart s k (event_by (Drains w way) (action_in_m s) s.cycle c)
      → IsHeld (cycle s).cache l (if a then Dirty (w.addr / 4) else Clean (line_at c l)) → IsCleanSlot (cycle s).cache l
  write-off w way false p t h g = clean-held (cycle s).cache l (line_at c l) g
  write-off w way true p t h g =
      absurd (h.0 (found-here c l tag is.cache slot-below (w.addr / 4) way t.1 (eqb-true (slot_of c.shape (set_of c.shape (w.addr / 4)) way) l p)))

  fill-by : (m way : ℕ) → move s ≡ Fills m way → Tells c load store (Fills m way) → Told (Fills m way)
  fill-by m way e t = go (slot_of c.shape (set_of c.shape m) way == l) refl (held (Fills m way) e)
    where
      at : slot_of c.shape (set_of c.shape m) way ≡ slot_of c.shape (set_of c.shape m) (way_for c m)
      at = ap (slot_of c.shape (set_of c.shape m)) t.1

      go : (a : Bool) → (slot_of c.shape (set_of c.shape m) way == l) ≡ a → IsHeld (cycle s).cache l (if a then Clean m else Clean (line_at c l))
          → TagCycleBy s k (a && true)
      go true p g = ends (Fills m way) e (settles-fill m way (sym at ∙ eqb-true (slot_of c.shape (set_of c.shape m) way) l p))
      go false p g = stays (Fills m way) e (keeps-fill m way (λ q. other-slot (slot_of c.shape (set_of c.shape m) way) l p (at ∙ q)))
          (clean-held (cycle s).cache l (line_at c l) g)

  by-move : (v : Move) → move s ≡ v → Tells c load store v → Told v
  by-move Rests e t = stays Rests e still.0 (clean-held (cycle s).cache l (line_at c l) (held Rests e))
  by-move (Reads word way) e t =
      no-fill (slot_of c.shape (set_of c.shape (word / 4)) way == l)
      (stays (Reads word way) e (keeps-read word way t (struck-told (Reads word way) e))
      (clean-either (cycle s).cache l (line_at c l) (slot_of c.shape (set_of c.shape (word / 4)) way == l) (held (Reads word way) e)))
  by-move (Drains w way) e t =
      no-fill (slot_of c.shape (set_of c.shape (w.addr / 4)) way == l)
      (stays (Drains w way) e (keeps-write w way t (struck-told (Drains w way) e))
      (write-off w way (slot_of c.shape (set_of c.shape (w.addr / 4)) way == l) refl t (apart-here (Drains w way) e) (held (Drains w way) e)))
  by-move (Misses m way count owner) e t =
      no-fill (slot_of c.shape (set_of c.shape m) way == l)
      (stays (Misses m way count owner) e (missed m way count owner)
      (clean-either (cycle s).cache l (line_at c l) (slot_of c.shape (set_of c.shape m) way == l) (held (Misses m way count owner) e)))
  by-move Waits e t = stays Waits e still.1 (clean-held (cycle s).cache l (line_at c l) (held Waits e))
  by-move Leaves e t = stays Leaves e still.2 (clean-held (cycle s).cache l (line_at c l) (held Leaves e))
  by-move (Fills m way) e t = fill-by m way e t

  pub tag-cycle : TagCycle s k
  tag-cycle = by-move (move s) refl told
