-- A line slot replaced by another: what that does to coherence and to the byte that the cache and main memory give.
use Rattle.std.proofs.Common.{◌≡◌, ℕ, ◌/◌, ◌%◌, ◌<◌, Bool, true, false, arith, refl, ap, sym, ◌∙◌}
use Rattle.std.specs.Prelude.{Option, Some, None}
use Rattle.std.proofs.lemmas.Bool.{true≢false}
use Rattle.bit_field.specs.declared.shapes.Shape.{Shape}
use Rattle.wb_cache.specs.Changes.{put_slot}
use Rattle.wb_cache.specs.Contents.{Slot}
use Rattle.wb_cache.specs.Lookup.{holds, set_of, way_of}
use Rattle.flush_view.specs.Coherence.{Coherent}
use Rattle.flush_view.specs.Struck.{Replaces}
use Rattle.flush_view.specs.Views.{byte_in, cached}
use Rattle.wb_cache.proofs.Ways.{Here, Place, Slots, There, has, place, way-none, way-nothing, way-only, way-same, way-some}

-- what is coherent outside few lines is so outside more
pub coherent-wider : (shape : Shape) (out more : ℕ → Bool) (ram : ℕ → ℕ) (cache : Slots) → ((line : ℕ) → more line ≡ false → out line ≡ false)
    → Coherent shape out ram cache → Coherent shape more ram cache
coherent-wider shape out more ram cache wider coherent = record {
  single = λ line o. coherent.single line (wider line o);
  clean = λ line o. coherent.clean line (wider line o);
}

module _ (shape : Shape) (out : ℕ → Bool) (ram : ℕ → ℕ) (cache : Slots) (set way : ℕ) (new : Slot) (l : way < shape.ways)
    (r : Replaces shape out set (cache set way) new) where
  abbrev changed : Slots
  changed = put_slot set way new cache

  old-is : (line w : ℕ) → set_of shape line ≡ set → w ≡ way → cache (set_of shape line) w ≡ cache set way
  old-is line w s q = ap (λ n. cache n w) s ∙ ap (cache set) q

  -- a way that holds a line held it before,
  held : (line w : ℕ) → out line ≡ false → has shape changed line w ≡ true → has shape cache line w ≡ true
  held line w o h = go (place set way new cache (set_of shape line) w)
    where
      go : Place set way new cache (set_of shape line) w → has shape cache line w ≡ true
      go (Here s q is) = ap (holds shape line) (old-is line w s q) ∙ r.held line s o (sym (ap (holds shape line) is) ∙ h)
      go (There ne is) = sym (ap (holds shape line) is) ∙ h

  -- with the same bytes,
  same_byte : (line w o : ℕ) → out line ≡ false → has shape changed line w ≡ true → o < 16
      → (changed (set_of shape line) w).bytes o ≡ (cache (set_of shape line) w).bytes o
  same_byte line w o outside h below = go (place set way new cache (set_of shape line) w)
    where
      go : Place set way new cache (set_of shape line) w → (changed (set_of shape line) w).bytes o ≡ (cache (set_of shape line) w).bytes o
      go (Here s q is) =
          ap (λ (slot : Slot). slot.bytes o) is
          ∙ r.bytes line o s outside (sym (ap (holds shape line) is) ∙ h) below
          ∙ sym (ap (λ (slot : Slot). slot.bytes o) (old-is line w s q))
      go (There ne is) = ap (λ (slot : Slot). slot.bytes o) is

  -- and was clean where it is
  was_clean : (line w : ℕ) → out line ≡ false → has shape changed line w ≡ true → (changed (set_of shape line) w).dirty ≡ false
      → (cache (set_of shape line) w).dirty ≡ false
  was_clean line w o h clean = go (place set way new cache (set_of shape line) w)
    where
      go : Place set way new cache (set_of shape line) w → (cache (set_of shape line) w).dirty ≡ false
      go (Here s q is) =
          ap (λ (slot : Slot). slot.dirty) (old-is line w s q)
          ∙ r.clean line s o (sym (ap (holds shape line) is) ∙ h) (sym (ap (λ (slot : Slot). slot.dirty) is) ∙ clean)
      go (There ne is) = sym (ap (λ (slot : Slot). slot.dirty) is) ∙ clean

  -- a way that holds a line no more was clean
  gone : (line w : ℕ) → out line ≡ false → has shape cache line w ≡ true → has shape changed line w ≡ false
      → (cache (set_of shape line) w).dirty ≡ false
  gone line w o h none = go (place set way new cache (set_of shape line) w)
    where
      go : Place set way new cache (set_of shape line) w → (cache (set_of shape line) w).dirty ≡ false
      go (Here s q is) =
          ap (λ (slot : Slot). slot.dirty) (old-is line w s q)
          ∙ r.gone line s o (sym (ap (holds shape line) (old-is line w s q)) ∙ h) (sym (ap (holds shape line) is) ∙ none)
      go (There ne is) = absurd (true≢false (sym h ∙ sym (ap (holds shape line) is) ∙ none))

  pub replaced-coherent : Coherent shape out ram cache → Coherent shape out ram changed
  replaced-coherent coherent = record {
    single = λ line o v w lv lw hv hw. coherent.single line o v w lv lw (held line v o hv) (held line w o hw);
    clean =
        λ line o w p lw h clean at. same_byte line w (p % 16) o h (omega arith)
        ∙ coherent.clean line o w p lw (held line w o h) (was_clean line w o h clean) at;
  }

  module _ (coherent : Coherent shape out ram cache) (p : ℕ) (o : out (p / 16) ≡ false) where
    -- the line is held by one way before, and by this one still, or by none
    kept : (w : ℕ) → w < shape.ways → has shape cache (p / 16) w ≡ true → (b : Bool) → has shape changed (p / 16) w ≡ b
        → byte_in (way_of shape changed (p / 16)) (changed (set_of shape (p / 16))) p (ram p) ≡ (cache (set_of shape (p / 16)) w).bytes (p % 16)
    kept w lw h true e =
        ap (λ found. byte_in found (changed (set_of shape (p / 16))) p (ram p))
        (way-only shape changed (p / 16) w lw e (λ v lv hv. coherent.single (p / 16) o v w lv lw (held (p / 16) v o hv) h))
        ∙ same_byte (p / 16) w (p % 16) o e (omega arith)
    kept w lw h false e =
        ap (λ found. byte_in found (changed (set_of shape (p / 16))) p (ram p)) (way-nothing shape changed (p / 16) nowhere)
        ∙ sym (coherent.clean (p / 16) o w p lw h (gone (p / 16) w o h e) refl)
      where
        nowhere : (v : ℕ) → v < shape.ways → has shape changed (p / 16) v ≡ false
        nowhere v lv = by_test v lv (has shape changed (p / 16) v) refl
          where
            by_test : (v : ℕ) → v < shape.ways → (b : Bool) → has shape changed (p / 16) v ≡ b → has shape changed (p / 16) v ≡ false
            by_test v lv false f = f
            by_test v lv true f =
                let same : v ≡ w = coherent.single (p / 16) o v w lv lw (held (p / 16) v o f) h in
                ap (has shape changed (p / 16)) same ∙ e

    new_none : (v : ℕ) → v < shape.ways → has shape cache (p / 16) v ≡ false → (b : Bool) → has shape changed (p / 16) v ≡ b
        → has shape changed (p / 16) v ≡ false
    new_none v lv none true e = absurd (true≢false (sym (held (p / 16) v o e) ∙ none))
    new_none v lv none false e = e

    pub replaced-cached : cached shape ram changed p ≡ cached shape ram cache p
    unfolding cached
    replaced-cached = go (way_of shape cache (p / 16)) refl
      where
        go : (found : Option ℕ) → way_of shape cache (p / 16) ≡ found
            → byte_in (way_of shape changed (p / 16)) (changed (set_of shape (p / 16))) p (ram p)
            ≡ byte_in (way_of shape cache (p / 16)) (cache (set_of shape (p / 16))) p (ram p)
        go (Some w) e =
            let some = way-some shape cache (p / 16) w e in
            kept w some.0 some.1 (has shape changed (p / 16) w) refl
            ∙ sym (ap (λ found. byte_in found (cache (set_of shape (p / 16))) p (ram p)) e)
        go None e =
            ap (λ found. byte_in found (changed (set_of shape (p / 16))) p (ram p))
            (way-nothing shape changed (p / 16) (λ v lv. new_none v lv (way-none shape cache (p / 16) e v lv) (has shape changed (p / 16) v) refl))
            ∙ sym (ap (λ found. byte_in found (cache (set_of shape (p / 16))) p (ram p)) e)

-- ---- other bytes in a slot

module _ (shape : Shape) (cache : Slots) (set way : ℕ) (bytes : ℕ → ℕ) where
  abbrev other : Slots
  other = put_slot set way (record (cache set way) { bytes = bytes }) cache

  other-is : (s w : ℕ) → s ≡ set → w ≡ way → cache s w ≡ cache set way
  other-is s w p q = ap (λ n. cache n w) p ∙ ap (cache set) q

  other-holds : (line w : ℕ) → has shape other line w ≡ has shape cache line w
  other-holds line w = go (place set way (record (cache set way) { bytes = bytes }) cache (set_of shape line) w)
    where
      go : Place set way (record (cache set way) { bytes = bytes }) cache (set_of shape line) w → has shape other line w ≡ has shape cache line w
      go (Here s q is) = ap (holds shape line) is ∙ sym (ap (holds shape line) (other-is (set_of shape line) w s q))
      go (There ne is) = ap (holds shape line) is

  pub other-way : (line : ℕ) → way_of shape other line ≡ way_of shape cache line
  other-way line = way-same shape other cache line (λ w l. other-holds line w)

  pub other-coherent : (cache set way).dirty ≡ true → (out : ℕ → Bool) (ram : ℕ → ℕ) → Coherent shape out ram cache → Coherent shape out ram other
  other-coherent dirty out ram coherent = record {
    single = λ line o v w lv lw hv hw. coherent.single line o v w lv lw (sym (other-holds line v) ∙ hv) (sym (other-holds line w) ∙ hw);
    clean = λ line o w p lw h clean at. still line o w p lw h clean at (place set way (record (cache set way) { bytes = bytes }) cache (set_of shape line) w);
  }
    where
      still : (line : ℕ) → out line ≡ false → (w p : ℕ) → w < shape.ways → has shape other line w ≡ true → (other (set_of shape line) w).dirty ≡ false
          → p / 16 ≡ line → Place set way (record (cache set way) { bytes = bytes }) cache (set_of shape line) w
          → (other (set_of shape line) w).bytes (p % 16) ≡ ram p
      still line o w p lw h clean at (Here s q is) = absurd (true≢false (sym dirty ∙ sym (ap (λ (slot : Slot). slot.dirty) is) ∙ clean))
      still line o w p lw h clean at (There ne is) =
          ap (λ (slot : Slot). slot.bytes (p % 16)) is
          ∙ coherent.clean line o w p lw (sym (other-holds line w) ∙ h) (sym (ap (λ (slot : Slot). slot.dirty) is) ∙ clean) at

  pub other-cached : (ram seen : ℕ → ℕ) (p : ℕ)
      → (set_of shape (p / 16) ≡ set → holds shape (p / 16) (cache set way) ≡ true → seen (bytes (p % 16)) ≡ seen ((cache set way).bytes (p % 16)))
      → seen (cached shape ram other p) ≡ seen (cached shape ram cache p)
  unfolding cached
  other-cached ram seen p same =
      ap (λ found. seen (byte_in found (other (set_of shape (p / 16))) p (ram p))) (other-way (p / 16))
      ∙ go (way_of shape cache (p / 16)) refl
    where
      by_place : (w : ℕ) → has shape cache (p / 16) w ≡ true
          → Place set way (record (cache set way) { bytes = bytes }) cache (set_of shape (p / 16)) w
          → seen ((other (set_of shape (p / 16)) w).bytes (p % 16)) ≡ seen ((cache (set_of shape (p / 16)) w).bytes (p % 16))
      by_place w h (Here s q is) =
          ap (λ (slot : Slot). seen (slot.bytes (p % 16))) is
          ∙ same s (sym (ap (holds shape (p / 16)) (other-is (set_of shape (p / 16)) w s q)) ∙ h)
          ∙ sym (ap (λ (slot : Slot). seen (slot.bytes (p % 16))) (other-is (set_of shape (p / 16)) w s q))
      by_place w h (There ne is) = ap (λ (slot : Slot). seen (slot.bytes (p % 16))) is

      go : (found : Option ℕ) → way_of shape cache (p / 16) ≡ found → seen (byte_in found (other (set_of shape (p / 16))) p (ram p))
          ≡ seen (byte_in found (cache (set_of shape (p / 16))) p (ram p))
      go (Some w) e =
          by_place w (way-some shape cache (p / 16) w e).1 (place set way (record (cache set way) { bytes = bytes }) cache (set_of shape (p / 16)) w)
      go None e = refl
