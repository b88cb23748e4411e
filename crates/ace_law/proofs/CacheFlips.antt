-- Struck valid, dirty and tag bits of line slots, as slots that are replaced.
use Rattle.std.proofs.Common.{◌≡◌, ◌*◌, ◌/◌, ◌%◌, ◌<◌, ◌^◌, ◌⊎◌, ℕ, Bool, true, false, refl, sym, ap, ◌∙◌, inl, inr, subst}
use Rattle.std.specs.Prelude.{bit_xor, not}
use Rattle.bit_field.specs.Shapes.{IsPlaceIn, slots as slot_count, tag_bits}
use Rattle.bit_field.specs.declared.places.Structure.TheVariants.{CDirty, CTag, CValid}
use Rattle.wb_cache.specs.Bits as bits
use Rattle.wb_cache.specs.Changes.{put_slot, set_at, way_at, with_dirty_bit, with_tag_bit, with_valid_bit}
use Rattle.wb_cache.specs.Contents.{Contents, IsSized, Slot, slot_at, slots}
use Rattle.wb_cache.specs.Lookup.{line_of}
use Rattle.wb_cache.proofs.Sizes.{slot-split}
use Rattle.wb_cache.proofs.Struck.{slot-at, slots-flip_dirty, slots-flip_tag, slots-flip_valid}
use Rattle.cyc_machine.specs.Strikes.{flip_in}
use Rattle.need_pass.specs.Tables.{Needs}
use Rattle.flush_view.specs.Struck.{IsOut, Replaces}
use Rattle.flush_view.proofs.Struck.Replacing.{invalid-out, line-out, replaces-clean, replaces-dirty, replaces-invalid, replaces-out}
use Rattle.ace_law.specs.Moments.{IsQuiet, IsTold, Moment, state}
use Rattle.ace_law.proofs.Alike.{IsLeftAlone}
use Rattle.ace_law.proofs.CacheRules.{replaced-spared}
use Rattle.ace_law.proofs.RecordedStates.{flip-machine}
use Rattle.ace_law.proofs.Told.{state-machine}
use Rattle.ace_law.proofs.Spared.{IsSpared}

-- ---- slots of other bits

flag-off : (slot : Slot) → slot.valid ≡ true → with_valid_bit slot ≡ record slot { valid = false }
flag-off slot on = ap (λ (v : Bool). record slot { valid = not v }) on

made-clean : (slot : Slot) → slot.dirty ≡ true → with_dirty_bit slot ≡ record slot { dirty = false }
made-clean slot on = ap (λ (v : Bool). record slot { dirty = not v }) on

made-dirty : (slot : Slot) → slot.dirty ≡ false → with_dirty_bit slot ≡ record slot { dirty = true }
made-dirty slot off = ap (λ (v : Bool). record slot { dirty = not v }) off

-- ---- which slot it is

module _ (a : Moment) (table : Needs) (out : ℕ → Bool) (l : ℕ) (told : IsTold a.r a.run table) (below : a.t < a.r.cycles) (quiet : IsQuiet a)
    (inside : l < slot_count (state a).cache.shape) (alone : IsLeftAlone a out) where
  abbrev c : Contents
  c = (state a).cache

  abbrev old : Slot
  old = slots c (set_at c.shape l) (way_at c.shape l)

  sized : IsSized c
  sized = (state-machine a table told below).cache.sized

  old-is : old ≡ slot_at c l
  old-is = slot-at c l sized inside

  way-in : way_at c.shape l < c.shape.ways
  way-in = (slot-split c.shape l sized.shape inside).1

  -- the slot's line is in X
  is-out : out (line_of c.shape (set_at c.shape l) (slot_at c l).tag) ≡ true → IsOut c.shape out (set_at c.shape l) old
  is-out o = line-out c.shape out (set_at c.shape l) old (ap (λ (slot : Slot). out (line_of c.shape (set_at c.shape l) slot.tag)) old-is ∙ o)

  -- its valid bit
  pub valid-spared : IsPlaceIn a.r.shape (record { structure = CValid; bit = l })
      → Replaces c.shape out (set_at c.shape l) old (with_valid_bit old) → IsSpared a out (flip_in CValid (state a) l)
  valid-spared place replaces =
      replaced-spared a table out (bits.flip_in CValid c l) (set_at c.shape l) (way_at c.shape l) (with_valid_bit old) told below quiet alone
      (flip-machine a table told CValid l below place)
      (record { shape = refl; within = way-in; slots = slots-flip_valid c l sized inside }) replaces

  pub dirty-spared : IsPlaceIn a.r.shape (record { structure = CDirty; bit = l })
      → Replaces c.shape out (set_at c.shape l) old (with_dirty_bit old) → IsSpared a out (flip_in CDirty (state a) l)
  dirty-spared place replaces =
      replaced-spared a table out (bits.flip_in CDirty c l) (set_at c.shape l) (way_at c.shape l) (with_dirty_bit old) told below quiet alone
      (flip-machine a table told CDirty l below place)
      (record { shape = refl; within = way-in; slots = slots-flip_dirty c l sized inside }) replaces

  valid-old : (b : Bool) → (slot_at c l).valid ≡ b → old.valid ≡ b
  valid-old b e = ap (λ (slot : Slot). slot.valid) old-is ∙ e

  dirty-old : (b : Bool) → (slot_at c l).dirty ≡ b → old.dirty ≡ b
  dirty-old b e = ap (λ (slot : Slot). slot.dirty) old-is ∙ e

  -- what can be lost: nothing of a clean slot, and of a dirty one its line, which is in X
  abbrev CanGo : Type 0
  CanGo = ((slot_at c l).dirty ≡ false) ⊎ (out (line_of c.shape (set_at c.shape l) (slot_at c l).tag) ≡ true)

  can-go : CanGo → (old.dirty ≡ false) ⊎ IsOut c.shape out (set_at c.shape l) old
  can-go (inl clean) = inl (dirty-old false clean)
  can-go (inr o) = inr (is-out o)

  -- a valid slot made invalid
  pub valid-off : IsPlaceIn a.r.shape (record { structure = CValid; bit = l }) → (slot_at c l).valid ≡ true → CanGo
      → IsSpared a out (flip_in CValid (state a) l)
  valid-off place on go =
      valid-spared place
      (subst (Replaces c.shape out (set_at c.shape l) old) (sym (flag-off old (valid-old true on)))
      (replaces-invalid c.shape out (set_at c.shape l) old (can-go go)))

  -- an invalid slot made valid, with a line of X
  pub valid-on : IsPlaceIn a.r.shape (record { structure = CValid; bit = l }) → (slot_at c l).valid ≡ false
      → out (line_of c.shape (set_at c.shape l) (slot_at c l).tag) ≡ true → IsSpared a out (flip_in CValid (state a) l)
  valid-on place off o =
      valid-spared place
      (replaces-out c.shape out (set_at c.shape l) old (with_valid_bit old)
      (line-out c.shape out (set_at c.shape l) (with_valid_bit old) (ap (λ (slot : Slot). out (line_of c.shape (set_at c.shape l) slot.tag)) old-is ∙ o))
      (inr (invalid-out c.shape out (set_at c.shape l) old (valid-old false off))))

  -- a clean slot made dirty, and a dirty one made clean, with its line in X
  pub dirty-on : IsPlaceIn a.r.shape (record { structure = CDirty; bit = l }) → (slot_at c l).dirty ≡ false
      → IsSpared a out (flip_in CDirty (state a) l)
  dirty-on place off =
      dirty-spared place
      (subst (Replaces c.shape out (set_at c.shape l) old) (sym (made-dirty old (dirty-old false off)))
      (replaces-dirty c.shape out (set_at c.shape l) old))

  pub dirty-off : IsPlaceIn a.r.shape (record { structure = CDirty; bit = l }) → (slot_at c l).dirty ≡ true
      → out (line_of c.shape (set_at c.shape l) (slot_at c l).tag) ≡ true → IsSpared a out (flip_in CDirty (state a) l)
  dirty-off place on o =
      dirty-spared place
      (subst (Replaces c.shape out (set_at c.shape l) old) (sym (made-clean old (dirty-old true on)))
      (replaces-clean c.shape out (set_at c.shape l) old (is-out o)))

  -- a bit of the tag, where the line at distance one is in X
  pub tag-spared : (k : ℕ) → IsPlaceIn a.r.shape (record { structure = CTag; bit = k }) → k < slot_count c.shape * tag_bits c.shape
      → l ≡ k / tag_bits c.shape → out (line_of c.shape (set_at c.shape l) (bit_xor (slot_at c l).tag (2 ^ (k % tag_bits c.shape)))) ≡ true → CanGo
      → IsSpared a out (flip_in CTag (state a) k)
  tag-spared k place within is o go =
      replaced-spared a table out (bits.flip_in CTag c k) (set_at c.shape l) (way_at c.shape l) (with_tag_bit (k % tag_bits c.shape) old) told below quiet alone
      (flip-machine a table told CTag k below place)
      (record {
        shape = refl;
        within = way-in;
        slots = slots-flip_tag c k sized within
            ∙ ap (λ (m : ℕ). put_slot (set_at c.shape m) (way_at c.shape m)
            (with_tag_bit (k % tag_bits c.shape) (slots c (set_at c.shape m) (way_at c.shape m))) (slots c)) (sym is);
      })
      (replaces-out c.shape out (set_at c.shape l) old (with_tag_bit (k % tag_bits c.shape) old)
      (line-out c.shape out (set_at c.shape l) (with_tag_bit (k % tag_bits c.shape) old)
      (ap (λ (slot : Slot). out (line_of c.shape (set_at c.shape l) (bit_xor slot.tag (2 ^ (k % tag_bits c.shape))))) old-is ∙ o))
      (can-go go))
