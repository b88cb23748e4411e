-- In a run from reset a slot that holds no line has the tag 0.
use Rattle.std.proofs.Common.{◌≡◌, ℕ, zero, suc, ◌<◌, Bool, true, false, cond, sym, subst, ap}
use Rattle.std.specs.Prelude.{Option, Some, None, ◌==◌, ◌&&◌}
use Rattle.bit_field.specs.Shapes.{IsShape, slots as slot_count}
use Rattle.bit_field.specs.declared.shapes.Shape.{Shape}
use Rattle.elf_load.specs.Image.{LoadedImage, IsImage, ram_byte}
use Rattle.store_buf.specs.Pending.{oldest, pending}
use Rattle.wb_cache.specs.Changes.{filled_slot, set_at, way_at, written_slot}
use Rattle.wb_cache.specs.Contents.{Slot, slot_at, slots}
use Rattle.wb_cache.specs.declared.event.CacheEvent.{CacheEvent}
use Rattle.wb_cache.specs.declared.event.EventKind.{EventKind}
use Rattle.wb_cache.specs.declared.event.EventKind.TheVariants.{Read, Write, Miss, Fill}
use Rattle.wb_cache.proofs.Empty.{slots-empty}
use Rattle.wb_cache.proofs.Struck.{slot-at}
use Rattle.cyc_machine.specs.Cycle.{cycle, event_in}
use Rattle.cyc_machine.specs.EventsLaw.{slots_by, slots_by_kind, value_drained}
use Rattle.cyc_machine.specs.Run.{state_after, state_at}
use Rattle.cyc_machine.specs.State.{State, reset}
use Rattle.cyc_machine.proofs.Events.{event-law}
use Rattle.cyc_machine.proofs.RunsOn.{runs-law}
use Rattle.cyc_machine.proofs.Sizes.Lasting.{steady-after, steady-reset}
use Rattle.need_pass.specs.Tables.{Needs}
use Rattle.ace_law.specs.Moments.{IsTold, Moment, state}

abbrev IsZero : Slot → Type 0
IsZero slot = slot.valid ≡ false → slot.tag ≡ 0

abbrev AreZero : (ℕ → ℕ → Slot) → Type 0
AreZero cache = (set way : ℕ) → IsZero (cache set way)

put : (b : Bool) (X Y : Slot) → IsZero X → IsZero Y → IsZero (cond b X Y)
put true X Y x y = x
put false X Y x y = y

by-kind : (kind : EventKind) (e : CacheEvent) (shape : Shape) (value : ℕ) (ram : ℕ → ℕ) (cache : ℕ → ℕ → Slot) → AreZero cache
    → AreZero (slots_by_kind kind e shape value ram cache)
unfolding written_slot filled_slot
by-kind Read e shape value ram cache is set way = is set way
by-kind Miss e shape value ram cache is set way = is set way
by-kind Write e shape value ram cache is set way =
    put (set == e.set && way == e.way) (written_slot e.word e.mask value (cache e.set e.way)) (cache set way) (is e.set e.way) (is set way)
by-kind Fill e shape value ram cache is set way =
    put (set == e.set && way == e.way) (filled_slot shape ram e.line) (cache set way) (λ no_line. absurd cc) (is set way)

by-event : (o : Option CacheEvent) (shape : Shape) (value : ℕ) (ram : ℕ → ℕ) (cache : ℕ → ℕ → Slot) → AreZero cache
    → AreZero (slots_by o shape value ram cache)
by-event None shape value ram cache is = is
by-event (Some e) shape value ram cache is = by-kind e.kind e shape value ram cache is

module _ (image : LoadedImage) (shape : Shape) (is : IsImage image) (fits : IsShape shape) where
  zero-at : (t : ℕ) → AreZero (slots (state_at image shape t).cache)
  unfolding state_after reset
  zero-at zero = λ set way h. ap (λ (slot : Slot). slot.tag) (slots-empty shape set way)
  zero-at (suc t) =
      let s : State = state_after t (reset image shape) in
      subst AreZero (sym (event-law s (steady-after t (reset image shape) (steady-reset image shape is fits))).lines)
      (by-event (event_in s) s.cache.shape (value_drained (oldest (pending s.stores))) (ram_byte (cycle s).image (cycle s).memory) (slots s.cache)
      (zero-at t))

pub vacant-tag : (a : Moment) (table : Needs) → IsTold a.r a.run table → (l : ℕ) → l < slot_count a.r.shape
    → (slot_at (state a).cache l).valid ≡ false → (slot_at (state a).cache l).tag ≡ 0
vacant-tag a table told l below =
    let steady = steady-after a.t (reset a.r.image a.r.shape) (steady-reset a.r.image a.r.shape told.image told.recorded.fits) in
    let shape : (state a).cache.shape ≡ a.r.shape = runs-law.shape_at a.r.image a.r.shape a.t in
    subst IsZero (slot-at (state a).cache l steady.cache (subst (λ (sh : Shape). l < slot_count sh) (sym shape) below))
    (zero-at a.r.image a.r.shape told.image told.recorded.fits a.t (set_at (state a).cache.shape l) (way_at (state a).cache.shape l))
