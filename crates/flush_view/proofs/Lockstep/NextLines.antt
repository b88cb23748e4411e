-- The next cache and main memory come of what is read of the cache.
use Rattle.std.proofs.Common.{◌≡◌, ℕ, ◌+◌, ◌-◌, ◌/◌, ◌%◌, ◌<◌, Bool, true, false, cond, List, length, get_or, refl, sym, ap, arith, ◌∙◌}
use Rattle.std.specs.Prelude.{Option, Some, ◌==◌, ◌&&◌}
use Rattle.std.proofs.Math.Path.{fun_ext}
use Rattle.std.proofs.lemmas.List.{ext_get_or}
use Rattle.bit_field.specs.declared.shapes.Shape.{Shape}
use Rattle.elf_load.specs.Image.{LoadedImage, IsImage, in_ram, ram_byte}
use Rattle.bit_field.specs.Lanes.{has_lane, lane_byte}
use Rattle.store_buf.specs.Entry.{Entry}
use Rattle.wb_cache.specs.Access.{put}
use Rattle.wb_cache.specs.Changes.{filled_slot, put_slot, slot_written_back, written_slot}
use Rattle.wb_cache.specs.Contents.{Contents, IsSized, Slot, slots}
use Rattle.wb_cache.specs.Lookup.{set_of, way_of}
use Rattle.wb_cache.specs.Refill.{filled as filled_contents, refilled, way_for}
use Rattle.wb_cache.specs.Replacement.{used}
use Rattle.wb_cache.proofs.Hits.{read-hit, written-hit}
use Rattle.elf_load.proofs.InRam.{in_ram-within}
use Rattle.cyc_machine.specs.declared.port.Move.{Move}
use Rattle.cyc_machine.specs.declared.port.Move.TheVariants.{Rests, Reads, Drains, Misses, Waits, Leaves, Fills}
use Rattle.cyc_machine.specs.Memory.{cache_after, memory_after}
use Rattle.flush_view.specs.Ignored.{SameLines, masked_word, read_of_slot}
use Rattle.flush_view.proofs.Memory.Drain.{drained, with_store}
use Rattle.flush_view.proofs.Memory.Fill.{filled, written}
use Rattle.flush_view.proofs.Lockstep.Lines.{found-whole, full-read, read_slots, slots-same}
use Rattle.flush_view.proofs.Lockstep.PortMoves.{masked_move}
use Rattle.flush_view.proofs.Lockstep.Stores.{masked-lane, masked_entry}
use Rattle.flush_view.proofs.Memory.MovedSlots.{moved, moved_ram, ram-moved, slots-moved}
use Rattle.cyc_machine.proofs.ShapeKept.{shape-moved}
use Rattle.cyc_machine.proofs.Tells.{Tells}
use Rattle.wb_cache.proofs.Ways.{Slots, found-valid}

-- ---- slots

put-read : (set way : ℕ) (slot : Slot) (cache : Slots)
    → read_slots (put_slot set way slot cache) ≡ put_slot set way (read_of_slot slot) (read_slots cache)
put-read set way slot cache = fun_ext (λ s. fun_ext (λ w. go s w (s == set && w == way)))
  where
    go : (s w : ℕ) (b : Bool) → read_of_slot (cond b slot (cache s w)) ≡ cond b (read_of_slot slot) (read_of_slot (cache s w))
    go s w true = refl
    go s w false = refl

written-masked : (word mask value : ℕ) (slot : Slot) → written_slot word mask (masked_word mask value) slot ≡ written_slot word mask value slot
unfolding written_slot
written-masked word mask value slot =
    ap (λ (bytes : ℕ → ℕ). record { valid = slot.valid; dirty = true; tag = slot.tag; bytes = bytes }) (fun_ext (λ o. go o (o / 4 == word)))
  where
    go : (o : ℕ) (b : Bool) → cond (b && has_lane mask (o % 4)) (lane_byte (masked_word mask value) (o % 4)) (slot.bytes o)
        ≡ cond (b && has_lane mask (o % 4)) (lane_byte value (o % 4)) (slot.bytes o)
    go o true = masked-lane mask value (o % 4) (slot.bytes o) (omega arith)
    go o false = refl

back-read : (image : LoadedImage) (shape : Shape) (set : ℕ) (slot : Slot) (ram : ℕ → ℕ)
    → slot_written_back image shape set (read_of_slot slot) ram ≡ slot_written_back image shape set slot ram
unfolding slot_written_back
back-read image shape set slot ram = fun_ext (λ p. go p slot.valid refl)
  where
    go : (p : ℕ) (b : Bool) → slot.valid ≡ b
        → slot_written_back image shape set (read_of_slot slot) ram p ≡ slot_written_back image shape set slot ram p
    go p true is = rw is refl
    go p false is = rw is refl

written_slot-valid : (word mask value : ℕ) (slot : Slot) → (written_slot word mask value slot).valid ≡ slot.valid
unfolding written_slot
written_slot-valid word mask value slot = refl

filled_slot-whole : (shape : Shape) (ram : ℕ → ℕ) (line : ℕ) → read_of_slot (filled_slot shape ram line) ≡ filled_slot shape ram line
unfolding filled_slot
filled_slot-whole shape ram line = refl

drained-read : (shape : Shape) (e : Entry) (way : ℕ) (cache : Slots) → way_of shape cache (e.addr / 4) ≡ Some way
    → read_slots (drained shape e way cache) ≡ drained shape (masked_entry e) way (read_slots cache)
drained-read shape e way cache h =
    put-read set way (with_store e old) cache
    ∙ ap (λ (slot : Slot). put_slot set way slot (read_slots cache))
    (full-read (with_store e old) (written_slot-valid (e.addr % 4) e.mask e.value old ∙ found-valid shape cache (e.addr / 4) way h)
    ∙ sym (written-masked (e.addr % 4) e.mask e.value old) ∙ ap (with_store (masked_entry e)) (sym (found-whole shape cache (e.addr / 4) way h)))
  where
    set : ℕ
    set = set_of shape (e.addr / 4)

    old : Slot
    old = cache (set_of shape (e.addr / 4)) way

filled-read : (image : LoadedImage) (shape : Shape) (line way : ℕ) (cache : Slots) (ram : ℕ → ℕ)
    → read_slots (filled image shape line way cache ram) ≡ filled image shape line way (read_slots cache) ram
filled-read image shape line way cache ram =
    put-read (set_of shape line) way (filled_slot shape (written image shape line way cache ram) line) cache
    ∙ ap (λ (slot : Slot). put_slot (set_of shape line) way slot (read_slots cache))
    (filled_slot-whole shape (written image shape line way cache ram) line
    ∙ ap (λ (r : ℕ → ℕ). filled_slot shape r line) (sym (back-read image shape (set_of shape line) (cache (set_of shape line) way) ram)))

-- ---- what a move makes

moved-read : (image : LoadedImage) (c : Contents) (load : Option ℕ) (store : Option Entry) (v : Move) (ram : ℕ → ℕ) → Tells c load store v
    → read_slots (moved image c v ram (slots c)) ≡ moved image c (masked_move v) ram (read_slots (slots c))
moved-read image c load store (Drains e way) ram t = drained-read c.shape e way (slots c) t.1
moved-read image c load store (Fills line way) ram t = filled-read image c.shape line way (slots c) ram
moved-read image c load store Rests ram t = refl
moved-read image c load store (Reads word way) ram t = refl
moved-read image c load store (Misses line way count owner) ram t = refl
moved-read image c load store Waits ram t = refl
moved-read image c load store Leaves ram t = refl

moved_ram-read : (image : LoadedImage) (c : Contents) (v : Move) (ram : ℕ → ℕ)
    → moved_ram image c v (slots c) ram ≡ moved_ram image c (masked_move v) (read_slots (slots c)) ram
moved_ram-read image c (Fills line way) ram = sym (back-read image c.shape (set_of c.shape line) (slots c (set_of c.shape line) way) ram)
moved_ram-read image c (Drains e way) ram = refl
moved_ram-read image c Rests ram = refl
moved_ram-read image c (Reads word way) ram = refl
moved_ram-read image c (Misses line way count owner) ram = refl
moved_ram-read image c Waits ram = refl
moved_ram-read image c Leaves ram = refl

-- it depends on the shape alone, besides
module _ (image : LoadedImage) (a b : Contents) (same : a.shape ≡ b.shape) where
  moved-shape : (v : Move) (ram : ℕ → ℕ) (cache : Slots) → moved image a v ram cache ≡ moved image b v ram cache
  moved-shape (Drains e way) ram cache = ap (λ (x : Shape). drained x e way cache) same
  moved-shape (Fills line way) ram cache = ap (λ (x : Shape). filled image x line way cache ram) same
  moved-shape Rests ram cache = refl
  moved-shape (Reads word way) ram cache = refl
  moved-shape (Misses line way count owner) ram cache = refl
  moved-shape Waits ram cache = refl
  moved-shape Leaves ram cache = refl

  moved_ram-shape : (v : Move) (cache : Slots) (ram : ℕ → ℕ) → moved_ram image a v cache ram ≡ moved_ram image b v cache ram
  moved_ram-shape (Fills line way) cache ram = ap (λ (x : Shape). written image x line way cache ram) same
  moved_ram-shape (Drains e way) cache ram = refl
  moved_ram-shape Rests cache ram = refl
  moved_ram-shape (Reads word way) cache ram = refl
  moved_ram-shape (Misses line way count owner) cache ram = refl
  moved_ram-shape Waits cache ram = refl
  moved_ram-shape Leaves cache ram = refl

-- the order of use
abbrev moved_nodes : Shape → Move → List Bool → List Bool
moved_nodes shape (Reads word way) nodes = used shape (set_of shape (word / 4)) way nodes
moved_nodes shape (Drains e way) nodes = used shape (set_of shape (e.addr / 4)) way nodes
moved_nodes shape (Fills line way) nodes = used shape (set_of shape line) way nodes
moved_nodes shape _ nodes = nodes

nodes-masked : (shape : Shape) (v : Move) (nodes : List Bool) → moved_nodes shape (masked_move v) nodes ≡ moved_nodes shape v nodes
nodes-masked shape (Drains e way) nodes = refl
nodes-masked shape Rests nodes = refl
nodes-masked shape (Reads word way) nodes = refl
nodes-masked shape (Misses line way count owner) nodes = refl
nodes-masked shape Waits nodes = refl
nodes-masked shape Leaves nodes = refl
nodes-masked shape (Fills line way) nodes = refl

nodes-put : (c : Contents) (set way word mask value : ℕ) → (put set way word mask value c).nodes ≡ used c.shape set way c.nodes
unfolding put
nodes-put c set way word mask value = refl

nodes-refilled : (image : LoadedImage) (line : ℕ) (memory : List ℕ) (c : Contents)
    → (refilled image line memory c).nodes ≡ used c.shape (set_of c.shape line) (way_for c line) c.nodes
unfolding refilled filled_contents
nodes-refilled image line memory c = refl

nodes-moved : (image : LoadedImage) (c : Contents) (memory : List ℕ) (load : Option ℕ) (store : Option Entry) (v : Move) → Tells c load store v
    → (cache_after image v memory c).nodes ≡ moved_nodes c.shape v c.nodes
unfolding cache_after
nodes-moved image c memory load store (Reads word way) t = ap (λ (x : Contents). x.nodes) (read-hit c (word / 4) way (sym t.1))
nodes-moved image c memory load store (Drains e way) t =
    ap (λ (x : Contents). x.nodes) (written-hit c (e.addr / 4) (e.addr % 4) e.mask e.value way (sym t.1))
    ∙ nodes-put c (set_of c.shape (e.addr / 4)) way (e.addr % 4) e.mask e.value
nodes-moved image c memory load store (Fills line way) t =
    nodes-refilled image line memory c
    ∙ ap (λ (w : ℕ). used c.shape (set_of c.shape line) w c.nodes) (sym t.1)
nodes-moved image c memory load store Rests t = refl
nodes-moved image c memory load store (Misses line way count owner) t = refl
nodes-moved image c memory load store Waits t = refl
nodes-moved image c memory load store Leaves t = refl

-- ---- main memory

-- two lists of main memory's length that give the same bytes are the same
same_bytes : (image : LoadedImage) (m n : List ℕ) → length m ≡ length image.ram → length n ≡ length image.ram → ram_byte image m ≡ ram_byte image n
    → m ≡ n
unfolding ram_byte
same_bytes image m n long as_long same = ext_get_or 0 m n (long ∙ sym as_long) byte
  where
    byte : (i : ℕ) → i < length m → get_or m i 0 ≡ get_or n i 0
    byte i below =
        let inside : in_ram image (image.base + i) ≡ true = in_ram-within image (image.base + i) (omega arith) (omega (arith, long)) in
        let at : image.base + i - image.base ≡ i = omega arith in
        let e : ram_byte image m (image.base + i) ≡ ram_byte image n (image.base + i) = ap (λ (f : ℕ → ℕ). f (image.base + i)) same in
        rw (inside, at) at e

-- ---- both

module _ (image : LoadedImage) (a b : Contents) (memory : List ℕ) (load other_load : Option ℕ) (store other_store : Option Entry) (v w : Move)
    (is : IsImage image) (long : length memory ≡ length image.ram) (sized : IsSized a) (as_sized : IsSized b) (same : SameLines a b)
    (moves : masked_move v ≡ masked_move w) (t : Tells a load store v) (u : Tells b other_load other_store w) where
  abbrev ram : ℕ → ℕ
  ram = ram_byte image memory

  slots-next : read_slots (slots (cache_after image v memory a)) ≡ read_slots (slots (cache_after image w memory b))
  slots-next =
      ap read_slots (slots-moved image a memory load store v is long sized t)
      ∙ moved-read image a load store v ram t
      ∙ moved-shape image a b same.shape (masked_move v) ram (read_slots (slots a))
      ∙ ap (λ (x : Move). moved image b x ram (read_slots (slots a))) moves
      ∙ ap (λ (x : Slots). moved image b (masked_move w) ram x) (slots-same a b same)
      ∙ sym (moved-read image b other_load other_store w ram u)
      ∙ ap read_slots (sym (slots-moved image b memory other_load other_store w is long as_sized u))

  nodes-next : (cache_after image v memory a).nodes ≡ (cache_after image w memory b).nodes
  nodes-next =
      nodes-moved image a memory load store v t
      ∙ sym (nodes-masked a.shape v a.nodes)
      ∙ ap (λ (x : Shape). moved_nodes x (masked_move v) a.nodes) same.shape
      ∙ ap (λ (x : Move). moved_nodes b.shape x a.nodes) moves
      ∙ ap (λ (x : List Bool). moved_nodes b.shape (masked_move w) x) same.nodes
      ∙ nodes-masked b.shape w b.nodes
      ∙ sym (nodes-moved image b memory other_load other_store w u)

  pub lines-next : SameLines (cache_after image v memory a) (cache_after image w memory b)
  lines-next =
      record {
        shape = shape-moved image a memory v ∙ same.shape ∙ sym (shape-moved image b memory w);
        nodes = nodes-next;
        slots = λ set way. ap (λ (x : Slots). x set way) slots-next;
      }

  pub memory-next : length (memory_after image v a memory) ≡ length image.ram → length (memory_after image w b memory) ≡ length image.ram
      → memory_after image v a memory ≡ memory_after image w b memory
  memory-next p q =
      same_bytes image (memory_after image v a memory) (memory_after image w b memory) p q
      (ram-moved image a memory load store v is long sized t
      ∙ moved_ram-read image a v ram
      ∙ moved_ram-shape image a b same.shape (masked_move v) (read_slots (slots a)) ram
      ∙ ap (λ (x : Move). moved_ram image b x (read_slots (slots a)) ram) moves
      ∙ ap (λ (x : Slots). moved_ram image b (masked_move w) x ram) (slots-same a b same)
      ∙ sym (moved_ram-read image b w ram)
      ∙ sym (ram-moved image b memory other_load other_store w is long as_sized u))
