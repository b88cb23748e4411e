-- What the table of slots tells of the machine's cache in a cycle of the run.
use Rattle.std.proofs.Common.{◌≡◌, ◌*◌, ◌/◌, ◌<◌, ◌^◌, ℕ, Bool, List, arith, sym, subst, ap, ◌∙◌}
use Rattle.std.specs.Prelude.{slice_index}
use Rattle.bit_field.specs.Shapes.{IsShape, slots as slot_count, tag_bits}
use Rattle.bit_field.specs.declared.shapes.Shape.{Shape}
use Rattle.need_pass.specs.Tables.{Needs}
use Rattle.wb_cache.specs.Changes.{set_at}
use Rattle.wb_cache.specs.Contents.{slot_at}
use Rattle.wb_cache.specs.Lookup.{line_of}
use Rattle.wb_cache.specs.declared.event.CacheEvent.{CacheEvent}
use Rattle.wb_cache.proofs.Sizes.{line_below, slot-split, tag_slot}
use Rattle.cyc_machine.specs.EventsLaw as machine
use Rattle.cyc_machine.specs.EventsLaw.{IsHeld}
use Rattle.slot_history.specs.HeldBefore.{IsSlotTable, held_before, told}
use Rattle.slot_history.specs.Histories.{Histories, held_in}
use Rattle.slot_history.specs.declared.changes.Held.{Held}
use Rattle.slot_history.specs.declared.changes.Held.TheVariants.{Vacant, Clean, Dirty}
use Rattle.slot_history.proofs.Runs.{held-before-law}
use Rattle.tag_dist.specs.Tables.{Tables}
use Rattle.ace_law.specs.Moments.{IsTold, Moment, state}
use Rattle.ace_law.proofs.Told.{state-shape, state-steady}
use Rattle.ace_rules.specs.Asked.{IsLineHeld}
use Rattle.ace_rules.specs.Lines.{AreTablesOf, IsSomeLineMoment}
use Rattle.ace_rules.specs.declared.note.Note.{Note}

module _ (a : Moment) (table : Needs) (is : IsTold a.r a.run table) (below : a.t < a.r.cycles) where
  held-by : (l : ℕ) → l < slot_count a.r.shape → IsHeld (state a).cache l (held_before a.r.shape l a.t a.r.events)
  held-by l within =
      subst (λ (events : List CacheEvent). IsHeld (state a).cache l (held_before a.r.shape l a.t events)) (sym is.recorded.events)
      (held-before-law a.r.image a.r.shape a.r.cycles a.t l is.image is.recorded.fits (omega arith) within)

  -- a slot holds what the table tells
  pub held-in : (slots : Histories) → IsSlotTable a.r.events a.r.shape slots → (l : ℕ) → l < slot_count a.r.shape
      → IsHeld (state a).cache l (told (held_in slots l a.t))
  held-in slots tells l within =
      subst (λ (held : machine.Held). IsHeld (state a).cache l held) (sym (tells.held l a.t within)) (held-by l within)

  pub held-at : (shape : Shape) (tags : Tables) (slots : Histories) (cycle : ℕ) → AreTablesOf a shape tags slots cycle → (l : ℕ)
      → l < slot_count shape
      → IsHeld (state a).cache l (told (held_in slots l cycle))
  held-at shape tags slots cycle tables l within =
      subst (λ (t : ℕ). IsHeld (state a).cache l (told (held_in slots l t))) tables.cycle
      (held-in slots tables.slots l (subst (λ (sh : Shape). l < slot_count sh) tables.shape within))

  tag-below : (l : ℕ) → l < slot_count a.r.shape → (slot_at (state a).cache l).tag < 2 ^ tag_bits a.r.shape
  unfolding slot_at
  tag-below l within =
      let steady = state-steady a table is below in
      let count = steady.cache.tags in
      let shape : (state a).cache.shape ≡ a.r.shape = state-shape a table is in
      let there : l < slot_count (state a).cache.shape = subst (λ (sh : Shape). l < slot_count sh) (sym shape) within in
      subst (λ (sh : Shape). slice_index (state a).cache.tags l < 2 ^ tag_bits sh) shape (steady.tags l 0 (omega (arith, count, there)))

  line-below : (l line : ℕ) → l < slot_count a.r.shape
      → line ≡ line_of (state a).cache.shape (set_at (state a).cache.shape l) (slot_at (state a).cache l).tag → line < 2 ^ 28
  line-below l line within e =
      let shape : (state a).cache.shape ≡ a.r.shape = state-shape a table is in
      let same : line ≡ line_of a.r.shape (set_at a.r.shape l) (slot_at (state a).cache l).tag =
      e ∙ ap (λ (sh : Shape). line_of sh (set_at sh l) (slot_at (state a).cache l).tag) shape in
      subst (λ (n : ℕ). n < 2 ^ 28) (sym same)
      (line_below a.r.shape (set_at a.r.shape l) (slot_at (state a).cache l).tag is.recorded.fits (slot-split a.r.shape l is.recorded.fits within).0
      (tag-below l within))

  pub held-below : (l : ℕ) (held : Held) → l < slot_count a.r.shape → IsHeld (state a).cache l (told held) → IsLineHeld held
  held-below l Vacant within h = tt
  held-below l (Clean line) within (v, d, e) = line-below l line within e
  held-below l (Dirty line) within (v, d, e) = line-below l line within e

-- the line of a tag bit's slot is below 2 ^ 28
pub some-line : (note : Note) (quiet : Bool) (shape : Shape) (tags : Tables) (slots : Histories) (cycle : ℕ)
    → IsSomeLineMoment note quiet shape tags slots cycle → (bit : ℕ) → bit < slot_count shape * tag_bits shape
    → IsLineHeld (held_in slots (bit / tag_bits shape) cycle)
some-line note quiet shape tags slots cycle some bit within =
    let a = some.a in
    let told = some.known.told in
    let fits : IsShape shape = subst IsShape (sym some.tables.shape) told.recorded.fits in
    let there : bit / tag_bits shape < slot_count shape = tag_slot shape bit fits within in
    held-below a some.table told some.known.below (bit / tag_bits shape) (held_in slots (bit / tag_bits shape) cycle)
    (subst (λ (sh : Shape). bit / tag_bits shape < slot_count sh) some.tables.shape there)
    (held-at a some.table told some.known.below shape tags slots cycle some.tables (bit / tag_bits shape) there)
