-- Strikes that no cycle reads: fields of empty places, and the cause of no trap.
use Rattle.std.proofs.Common.{◌≡◌, ◌/◌, ◌%◌, ◌<◌, ℕ, List, map, false, refl, sym, ap, ◌∙◌, subst, arith}
use Rattle.std.proofs.Math.Seq.{map-set_same}
use Rattle.bit_field.specs.Shapes.{IsPlaceIn, slots as slot_count, tag_bits}
use Rattle.bit_field.specs.declared.places.Structure.{Structure}
use Rattle.bit_field.specs.declared.places.Structure.TheVariants.{Ib, IdEx, ExMem, MemWb, Sb, CData, CTag, CDirty}
use Rattle.pipe_latch.specs.DecodedBits as idex
use Rattle.pipe_latch.specs.ExecutedBits as exmem
use Rattle.pipe_latch.specs.ResultBits as memwb
use Rattle.pipe_latch.specs.Latches.{DecodedLatch, ExecutedLatch, ResultLatch}
use Rattle.inst_buf.specs.Buffer.{slot_of as fetched_slot}
use Rattle.inst_buf.specs.Entry.{Entry as Fetched, no_entry as no_fetched}
use Rattle.inst_buf.specs.EntryBits as ib
use Rattle.inst_buf.specs.declared.slots.TheConstants.{SLOT_BITS}
use Rattle.store_buf.specs.Entry.{Entry as Pending, no_entry as no_pending}
use Rattle.store_buf.specs.EntryBits as sb
use Rattle.store_buf.specs.Pending.{slot_of as pending_slot}
use Rattle.store_buf.specs.declared.pending.TheConstants.{PENDING_BITS}
use Rattle.wb_cache.specs.Bits as bits
use Rattle.wb_cache.specs.Changes.{put_slot, set_at, way_at, with_data_bit}
use Rattle.wb_cache.specs.Contents.{Contents, IsSized, Slot, slot_at, slots}
use Rattle.wb_cache.proofs.Sizes.{tag_slot as slot_below}
use Rattle.wb_cache.proofs.Struck.{slot-at, slots-flip_data, slots-flip_dirty, slots-flip_tag}
use Rattle.wb_cache.proofs.Ways.{Place, place}
use Rattle.wb_cache.proofs.Ways.Place.{Here, There}
use Rattle.cyc_machine.specs.State.{State}
use Rattle.cyc_machine.specs.Strikes.{flip_in}
use Rattle.cyc_machine.proofs.Sizes.Lasting.{machine-steady}
use Rattle.need_pass.specs.Tables.{Needs}
use Rattle.flush_view.specs.Ignored.{DiffersInIgnored, SameLines, read_of_decoded, read_of_executed, read_of_fetched, read_of_pending, read_of_result, read_of_slot}
use Rattle.flush_view.proofs.Lockstep.LockstepLaw.{goes-in-lockstep}
use Rattle.run_record.specs.Verdict.{HasSame}
use Rattle.ace_law.specs.Moments.{IsTold, Moment, state}
use Rattle.ace_law.specs.PipelineRules.{IsEmptyPlaceBit, IsUnusedCause}
use Rattle.ace_law.proofs.EmptyPlaces.{empty-decoded, empty-executed, empty-fetched, empty-pending, empty-result, unused-cause}
use Rattle.ace_law.proofs.RecordedStates.{bit-in, flip-machine}
use Rattle.ace_law.proofs.EndsSame.{reports-same}
use Rattle.ace_law.proofs.Told.{state-machine, state-shape, state-steady}

-- ---- states that differ in one part, which is read alike

same-lines : (c : Contents) → SameLines c c
same-lines c = record { shape = refl; nodes = refl; slots = λ set way. refl }

differs : (s : State) (buffer : List Fetched) (d : DecodedLatch) (m : ExecutedLatch) (w : ResultLatch) (stores : List Pending) (c : Contents)
    → map read_of_fetched s.buffer ≡ map read_of_fetched buffer → read_of_decoded s.d ≡ read_of_decoded d → read_of_executed s.m ≡ read_of_executed m
    → read_of_result s.w ≡ read_of_result w → map read_of_pending s.stores ≡ map read_of_pending stores → SameLines s.cache c
    → DiffersInIgnored s (record s { buffer = buffer; d = d; m = m; w = w; stores = stores; cache = c })
differs s buffer d m w stores c fetched decoded executed result pending lines = record {
  image = refl;
  pc = refl;
  npc = refl;
  tables = refl;
  buffer = fetched;
  d = decoded;
  m = executed;
  w = result;
  registers = refl;
  stores = pending;
  port = refl;
  cache = lines;
  memory = refl;
  cycle = refl;
  issued = refl;
  ended = refl;
}

fetched-differs : (s : State) (k : ℕ) → read_of_fetched (ib.flipped (fetched_slot s.buffer (k / SLOT_BITS)) (k % SLOT_BITS))
    ≡ read_of_fetched (fetched_slot s.buffer (k / SLOT_BITS))
    → DiffersInIgnored s (flip_in Ib s k)
fetched-differs s k same =
    differs s _ s.d s.m s.w s.stores s.cache (sym (map-set_same read_of_fetched s.buffer (k / SLOT_BITS) _ no_fetched same)) refl refl refl refl
    (same-lines s.cache)

pending-differs : (s : State) (k : ℕ) → read_of_pending (sb.flipped (pending_slot s.stores (k / PENDING_BITS)) (k % PENDING_BITS))
    ≡ read_of_pending (pending_slot s.stores (k / PENDING_BITS))
    → DiffersInIgnored s (flip_in Sb s k)
pending-differs s k same =
    differs s s.buffer s.d s.m s.w _ s.cache refl refl refl refl (sym (map-set_same read_of_pending s.stores (k / PENDING_BITS) _ no_pending same))
    (same-lines s.cache)

decoded-differs : (s : State) (k : ℕ) → read_of_decoded (idex.flipped s.d k) ≡ read_of_decoded s.d → DiffersInIgnored s (flip_in IdEx s k)
decoded-differs s k same = differs s s.buffer (idex.flipped s.d k) s.m s.w s.stores s.cache refl (sym same) refl refl refl (same-lines s.cache)

executed-differs : (s : State) (k : ℕ) → read_of_executed (exmem.flipped s.m k) ≡ read_of_executed s.m → DiffersInIgnored s (flip_in ExMem s k)
executed-differs s k same = differs s s.buffer s.d (exmem.flipped s.m k) s.w s.stores s.cache refl refl (sym same) refl refl (same-lines s.cache)

result-differs : (s : State) (k : ℕ) → read_of_result (memwb.flipped s.w k) ≡ read_of_result s.w → DiffersInIgnored s (flip_in MemWb s k)
result-differs s k same = differs s s.buffer s.d s.m (memwb.flipped s.w k) s.stores s.cache refl refl refl (sym same) refl (same-lines s.cache)

-- ---- an invalid line slot

invalid-slot : (old new : Slot) → old.valid ≡ false → new.valid ≡ false → read_of_slot old ≡ read_of_slot new
invalid-slot old new p q = rw (p, q) refl

module _ (c e : Contents) (set way : ℕ) (new : Slot) (nodes : c.nodes ≡ e.nodes) (shape : c.shape ≡ e.shape)
    (is : slots e ≡ put_slot set way new (slots c)) (old-off : (slots c set way).valid ≡ false) (new-off : new.valid ≡ false) where
  by-place : (s w : ℕ) → Place set way new (slots c) s w → read_of_slot (slots c s w) ≡ read_of_slot (put_slot set way new (slots c) s w)
  by-place s w (Here p q at) =
      invalid-slot (slots c s w) (put_slot set way new (slots c) s w)
      (ap (λ (n : ℕ). (slots c n w).valid) p ∙ ap (λ (n : ℕ). (slots c set n).valid) q ∙ old-off) (ap (λ (slot : Slot). slot.valid) at ∙ new-off)
  by-place s w (There ne at) = ap read_of_slot (sym at)

  lines-but : SameLines c e
  lines-but = record {
    shape = shape;
    nodes = nodes;
    slots = λ s w. by-place s w (place set way new (slots c) s w) ∙ ap (λ (all : ℕ → ℕ → Slot). read_of_slot (all s w)) (sym is);
  }

cache-differs : (s : State) (c : Contents) → SameLines s.cache c → DiffersInIgnored s (record s { cache = c })
cache-differs s c lines = differs s s.buffer s.d s.m s.w s.stores c refl refl refl refl refl lines

module _ (a : Moment) (table : Needs) (k : ℕ) (told : IsTold a.r a.run table) (below : a.t < a.r.cycles) where
  abbrev c : Contents
  c = (state a).cache

  sized : IsSized c
  sized = (state-machine a table told below).cache.sized

  off-at : (l : ℕ) → l < slot_count c.shape → (slot_at c l).valid ≡ false → (slots c (set_at c.shape l) (way_at c.shape l)).valid ≡ false
  off-at l inside off = ap (λ (slot : Slot). slot.valid) (slot-at c l sized inside) ∙ off

  data-differs : IsPlaceIn a.r.shape (record { structure = CData; bit = k }) → (slot_at c (k / 128)).valid ≡ false
      → DiffersInIgnored (state a) (flip_in CData (state a) k)
  unfolding with_data_bit
  data-differs place off =
      let within = bit-in a table told CData k place in
      cache-differs (state a) (bits.flip_in CData c k)
      (lines-but c (bits.flip_in CData c k) (set_at c.shape (k / 128)) (way_at c.shape (k / 128)) _ refl refl (slots-flip_data c k sized within)
      (off-at (k / 128) (omega (arith, within)) off) (off-at (k / 128) (omega (arith, within)) off))

  tag-differs : IsPlaceIn a.r.shape (record { structure = CTag; bit = k }) → (slot_at c (k / tag_bits a.r.shape)).valid ≡ false
      → DiffersInIgnored (state a) (flip_in CTag (state a) k)
  tag-differs place off =
      let within = bit-in a table told CTag k place in
      let here = subst (λ shape. (slot_at c (k / tag_bits shape)).valid ≡ false) (sym (state-shape a table told)) off in
      let inside = slot_below c.shape k sized.shape within in
      cache-differs (state a) (bits.flip_in CTag c k)
      (lines-but c (bits.flip_in CTag c k) (set_at c.shape (k / tag_bits c.shape)) (way_at c.shape (k / tag_bits c.shape)) _ refl refl
      (slots-flip_tag c k sized within) (off-at (k / tag_bits c.shape) inside here) (off-at (k / tag_bits c.shape) inside here))

  dirty-differs : IsPlaceIn a.r.shape (record { structure = CDirty; bit = k }) → (slot_at c k).valid ≡ false
      → DiffersInIgnored (state a) (flip_in CDirty (state a) k)
  dirty-differs place off =
      let inside = bit-in a table told CDirty k place in
      cache-differs (state a) (bits.flip_in CDirty c k)
      (lines-but c (bits.flip_in CDirty c k) (set_at c.shape k) (way_at c.shape k) _ refl refl (slots-flip_dirty c k sized inside)
      (off-at k inside off) (off-at k inside off))

-- ---- the rules

ignored-same : (a : Moment) (table : Needs) (s : Structure) (k : ℕ) → IsTold a.r a.run table → a.t < a.r.cycles
    → IsPlaceIn a.r.shape (record { structure = s; bit = k }) → DiffersInIgnored (state a) (flip_in s (state a) k) → HasSame a.r a.t (flip_in s (state a) k)
ignored-same a table s k told below place same =
    reports-same a table (flip_in s (state a) k) told below
    (goes-in-lockstep (state a) (flip_in s (state a) k) (state-steady a table told below)
    (machine-steady (flip_in s (state a) k) (flip-machine a table told s k below place)) same).report

pub empty-place-same : (a : Moment) (table : Needs) (s : Structure) (k : ℕ) → IsTold a.r a.run table → a.t < a.r.cycles
    → IsPlaceIn a.r.shape (record { structure = s; bit = k }) → IsEmptyPlaceBit a s k → HasSame a.r a.t (flip_in s (state a) k)
empty-place-same a table Ib k told below place is =
    ignored-same a table Ib k told below place
    (fetched-differs (state a) k (empty-fetched (fetched_slot (state a).buffer (k / SLOT_BITS)) (ib.field_of (k % SLOT_BITS)) (k % SLOT_BITS) refl is.0 is.1))
empty-place-same a table IdEx k told below place is =
    ignored-same a table IdEx k told below place (decoded-differs (state a) k (empty-decoded (state a).d (idex.field_of k) k refl is.0 is.1))
empty-place-same a table ExMem k told below place is =
    ignored-same a table ExMem k told below place (executed-differs (state a) k (empty-executed (state a).m (exmem.field_of k) k refl is.0 is.1))
empty-place-same a table MemWb k told below place is =
    ignored-same a table MemWb k told below place (result-differs (state a) k (empty-result (state a).w (memwb.field_of k) k refl is.0 is.1))
empty-place-same a table Sb k told below place is =
    ignored-same a table Sb k told below place
    (pending-differs (state a) k (empty-pending (pending_slot (state a).stores (k / PENDING_BITS)) (sb.field_of (k % PENDING_BITS)) (k % PENDING_BITS) refl is))
empty-place-same a table CData k told below place is = ignored-same a table CData k told below place (data-differs a table k told below place is)
empty-place-same a table CTag k told below place is = ignored-same a table CTag k told below place (tag-differs a table k told below place is)
empty-place-same a table CDirty k told below place is = ignored-same a table CDirty k told below place (dirty-differs a table k told below place is)
empty-place-same a table _ k told below place is = absurd is

pub cause-same : (a : Moment) (table : Needs) (s : Structure) (k : ℕ) → IsTold a.r a.run table → a.t < a.r.cycles
    → IsPlaceIn a.r.shape (record { structure = s; bit = k }) → IsUnusedCause a s k → HasSame a.r a.t (flip_in s (state a) k)
cause-same a table ExMem k told below place is =
    ignored-same a table ExMem k told below place (executed-differs (state a) k (unused-cause (state a).m (exmem.field_of k) k refl is.1 is.2))
cause-same a table _ k told below place is = absurd is
