-- A line that misses is read into a way, whose slot is written back first where it is valid and dirty: outside X no byte that
-- the cache and main memory give changes.
use Rattle.std.proofs.Common.{◌≡◌, ℕ, ◌+◌, ◌*◌, ◌/◌, ◌%◌, ◌<◌, Bool, true, false, cond, arith, refl, ap, sym, ◌∙◌}
use Rattle.std.specs.Prelude.{Option, Some, None, ◌==◌, ◌&&◌, nat_lt}
use Rattle.std.proofs.lemmas.Bool.Decides.{nat_tests}
use Rattle.std.proofs.lemmas.Bool.{true≢false}
use Rattle.bit_field.specs.declared.shapes.Shape.{Shape}
use Rattle.elf_load.specs.Image.{LoadedImage, in_ram}
use Rattle.wb_cache.specs.Changes.{filled_slot, put_slot, slot_written_back}
use Rattle.wb_cache.specs.Contents.{Slot}
use Rattle.wb_cache.specs.Lookup.{holds, set_of, tag_of, way_of}
use Rattle.flush_view.specs.Coherence.{Coherent, IsClean, IsSingle}
use Rattle.flush_view.specs.Views.{byte_in, cached}
use Rattle.wb_cache.proofs.Bytewise.{filled-self}
use Rattle.wb_cache.proofs.Ways.{Here, Place, Slots, There, has, holds-one, place, way-none, way-nothing, way-only, way-same, way-some}

-- main memory and the cache after a refill of a way
abbrev pub written : LoadedImage → Shape → ℕ → ℕ → Slots → (ℕ → ℕ) → ℕ → ℕ
written image shape line way cache ram = slot_written_back image shape (set_of shape line) (cache (set_of shape line) way) ram

abbrev pub filled : LoadedImage → Shape → ℕ → ℕ → Slots → (ℕ → ℕ) → Slots
filled image shape line way cache ram = put_slot (set_of shape line) way (filled_slot shape (written image shape line way cache ram) line) cache

filled-tag : (shape : Shape) (ram : ℕ → ℕ) (line other : ℕ)
    → holds shape other (filled_slot shape ram line) ≡ (tag_of shape line == tag_of shape other)
unfolding filled_slot
filled-tag shape ram line other = refl

filled-byte : (shape : Shape) (ram : ℕ → ℕ) (p line : ℕ) → p / 16 ≡ line → (filled_slot shape ram line).bytes (p % 16) ≡ ram p
unfolding filled_slot
filled-byte shape ram p line h =
    let within : nat_lt (p % 16) 16 ≡ true = grind (arith, nat_tests) in
    let at : 16 * line + p % 16 ≡ p = omega arith in
    rw (within, at) refl

-- a byte that the write-back leaves
kept_byte : (image : LoadedImage) (shape : Shape) (set : ℕ) (slot : Slot) (ram : ℕ → ℕ) (p : ℕ)
    → (set_of shape (p / 16) ≡ set → holds shape (p / 16) slot ≡ true → ⊥) → slot_written_back image shape set slot ram p ≡ ram p
unfolding slot_written_back
kept_byte image shape set slot ram p apart =
    go (slot.valid && slot.dirty && (set_of shape (p / 16) == set && tag_of shape (p / 16) == slot.tag) && in_ram image p) refl
  where
    go : (b : Bool) → (slot.valid && slot.dirty && (set_of shape (p / 16) == set && tag_of shape (p / 16) == slot.tag) && in_ram image p) ≡ b
        → cond (slot.valid && slot.dirty && (set_of shape (p / 16) == set && tag_of shape (p / 16) == slot.tag) && in_ram image p) (slot.bytes (p % 16))
        (ram p) ≡ ram p
    go true e = absurd (apart (grind (arith, nat_tests)) (grind (arith, nat_tests)))
    go false e = rw e refl

clean_byte : (image : LoadedImage) (shape : Shape) (set : ℕ) (slot : Slot) (ram : ℕ → ℕ) (p : ℕ) → slot.dirty ≡ false
    → slot_written_back image shape set slot ram p ≡ ram p
unfolding slot_written_back
clean_byte image shape set slot ram p clean = grind (arith, nat_tests)

-- a byte that is written back
back_byte : (image : LoadedImage) (shape : Shape) (set : ℕ) (slot : Slot) (ram : ℕ → ℕ) (p : ℕ) → set_of shape (p / 16) ≡ set
    → holds shape (p / 16) slot ≡ true → slot.dirty ≡ true → in_ram image p ≡ true
    → slot_written_back image shape set slot ram p ≡ slot.bytes (p % 16)
unfolding slot_written_back
back_byte image shape set slot ram p s h dirty inside = grind (arith, nat_tests)

module _ (image : LoadedImage) (shape : Shape) (line way : ℕ) (cache : Slots) (ram : ℕ → ℕ) (below : way < shape.ways)
    (miss : way_of shape cache line ≡ None) where
  abbrev set : ℕ
  set = set_of shape line

  abbrev victim : Slot
  victim = cache set way

  abbrev back : ℕ → ℕ
  back = written image shape line way cache ram

  abbrev new : Slot
  new = filled_slot shape back line

  abbrev after : Slots
  after = filled image shape line way cache ram

  at : (s w : ℕ) → Place set way new cache s w
  at s w = place set way new cache s w

  -- the old slot there
  victim_there : (s w : ℕ) → s ≡ set → w ≡ way → cache s w ≡ victim
  victim_there s w p q = ap (λ n. cache n w) p ∙ ap (cache set) q

  -- a way that held a line alone and is the victim
  victim_misses : (w : ℕ) → w < shape.ways → has shape cache line w ≡ false
  victim_misses = way-none shape cache line miss

  -- what the new slot holds is the line
  new_line : (other s w : ℕ) → s ≡ set_of shape other → s ≡ set → holds shape other new ≡ true → other ≡ line
  new_line other s w e f h = holds-one shape other line new (sym e ∙ f) h (filled-self shape back line)

  -- ---- the byte of the line

  pub arrived-way : way_of shape after line ≡ Some way
  arrived-way = way-only shape after line way below (here (at set way)) (λ v l h. only v l h (at set v))
    where
      here : Place set way new cache set way → has shape after line way ≡ true
      here (Here s q is) = ap (holds shape line) is ∙ filled-self shape back line
      here (There ne is) = absurd (ne refl refl)

      only : (v : ℕ) → v < shape.ways → has shape after line v ≡ true → Place set way new cache set v → v ≡ way
      only v l h (Here s q is) = q
      only v l h (There ne is) = absurd (true≢false (sym h ∙ ap (holds shape line) is ∙ victim_misses v l))

  slot_there : Place set way new cache set way → after set way ≡ new
  slot_there (Here s q is) = is
  slot_there (There ne is) = absurd (ne refl refl)

  arrived : (p : ℕ) → p / 16 ≡ line → cached shape back after p ≡ cached shape ram cache p
  unfolding cached
  arrived p h =
      let w : way_of shape after (p / 16) ≡ Some way = ap (way_of shape after) h ∙ arrived-way in
      let none : way_of shape cache (p / 16) ≡ None = ap (way_of shape cache) h ∙ miss in
      ap (λ o. byte_in o (after (set_of shape (p / 16))) p (back p)) w
      ∙ ap (λ n. (after (set_of shape n) way).bytes (p % 16)) h
      ∙ ap (λ (slot : Slot). slot.bytes (p % 16)) (slot_there (at set way))
      ∙ filled-byte shape back p line h
      ∙ kept_byte image shape set victim ram p (λ s k. true≢false (sym (ap (λ n. holds shape n victim) (sym h) ∙ k) ∙ victim_misses way below))
      ∙ sym (ap (λ o. byte_in o (cache (set_of shape (p / 16))) p (ram p)) none)

  -- ---- the byte of a line that the victim doesn't hold

  quiet-has : (other : ℕ) → (other ≡ line → ⊥) → (set_of shape other ≡ set → holds shape other victim ≡ true → ⊥) → (w : ℕ)
      → has shape after other w ≡ has shape cache other w
  quiet-has other ne apart w = go (at (set_of shape other) w)
    where
      both : (a b : Bool) → (a ≡ true → ⊥) → (b ≡ true → ⊥) → a ≡ b
      both true b f g = absurd (f refl)
      both false true f g = absurd (g refl)
      both false false f g = refl

      go : Place set way new cache (set_of shape other) w → has shape after other w ≡ has shape cache other w
      go (Here s q is) =
          ap (holds shape other) is
          ∙ both (holds shape other new) (holds shape other victim) (λ h. ne (new_line other (set_of shape other) w refl s h)) (apart s)
          ∙ sym (ap (holds shape other) (victim_there (set_of shape other) w s q))
      go (There off is) = ap (holds shape other) is

  quiet-byte : (other p w : ℕ) → has shape cache other w ≡ true → (set_of shape other ≡ set → holds shape other victim ≡ true → ⊥)
      → (after (set_of shape other) w).bytes (p % 16) ≡ (cache (set_of shape other) w).bytes (p % 16)
  quiet-byte other p w h apart = go (at (set_of shape other) w)
    where
      go : Place set way new cache (set_of shape other) w
          → (after (set_of shape other) w).bytes (p % 16) ≡ (cache (set_of shape other) w).bytes (p % 16)
      go (Here s q is) = absurd (apart s (ap (holds shape other) (sym (victim_there (set_of shape other) w s q)) ∙ h))
      go (There off is) = ap (λ (slot : Slot). slot.bytes (p % 16)) is

  quiet : (p : ℕ) → (p / 16 ≡ line → ⊥) → (set_of shape (p / 16) ≡ set → holds shape (p / 16) victim ≡ true → ⊥)
      → cached shape back after p ≡ cached shape ram cache p
  unfolding cached
  quiet p ne apart =
      ap (λ o. byte_in o (after (set_of shape (p / 16))) p (back p)) (way-same shape after cache (p / 16) (λ w l. quiet-has (p / 16) ne apart w))
      ∙ go (way_of shape cache (p / 16)) refl
    where
      go : (o : Option ℕ) → way_of shape cache (p / 16) ≡ o
          → byte_in o (after (set_of shape (p / 16))) p (back p) ≡ byte_in o (cache (set_of shape (p / 16))) p (ram p)
      go (Some w) found = quiet-byte (p / 16) p w (way-some shape cache (p / 16) w found).1 apart
      go None none = kept_byte image shape set victim ram p apart

  -- ---- the byte of the victim's line, which is in RAM

  gone-way : (other : ℕ) → (other ≡ line → ⊥) → set_of shape other ≡ set → holds shape other victim ≡ true → IsSingle shape cache other
      → way_of shape after other ≡ None
  gone-way other ne s h single = way-nothing shape after other (λ w l. go w l (at (set_of shape other) w))
    where
      fails : (b : Bool) → (b ≡ true → ⊥) → b ≡ false
      fails true f = absurd (f refl)
      fails false f = refl

      go : (w : ℕ) → w < shape.ways → Place set way new cache (set_of shape other) w → has shape after other w ≡ false
      go w l (Here t q is) =
          fails (has shape after other w) (λ k. ne (new_line other (set_of shape other) w refl t (ap (holds shape other) (sym is) ∙ k)))
      go w l (There off is) =
          fails (has shape after other w)
          (λ k. off s (single w way l below (ap (holds shape other) (sym is) ∙ k) (ap (λ n. holds shape other (cache n way)) s ∙ h)))

  was-way : (other : ℕ) → set_of shape other ≡ set → holds shape other victim ≡ true → IsSingle shape cache other
      → way_of shape cache other ≡ Some way
  was-way other s h single =
      let there : has shape cache other way ≡ true = ap (λ n. holds shape other (cache n way)) s ∙ h in
      way-only shape cache other way below there (λ v l k. single v way l below k there)

  gone_byte : (p : ℕ) (b : Bool) → victim.dirty ≡ b → set_of shape (p / 16) ≡ set → holds shape (p / 16) victim ≡ true → in_ram image p ≡ true
      → IsClean shape ram cache (p / 16) → back p ≡ victim.bytes (p % 16)
  gone_byte p true dirty s h inside clean = back_byte image shape set victim ram p s h dirty inside
  gone_byte p false dirty s h inside clean =
      clean_byte image shape set victim ram p dirty
      ∙ sym (clean way p below (ap (λ n. holds shape (p / 16) (cache n way)) s ∙ h) (ap (λ n. (cache n way).dirty) s ∙ dirty) refl)
      ∙ ap (λ n. (cache n way).bytes (p % 16)) s

  gone : (p : ℕ) → (p / 16 ≡ line → ⊥) → set_of shape (p / 16) ≡ set → holds shape (p / 16) victim ≡ true → in_ram image p ≡ true
      → IsSingle shape cache (p / 16) → IsClean shape ram cache (p / 16) → cached shape back after p ≡ cached shape ram cache p
  unfolding cached
  gone p ne s h inside single clean =
      ap (λ o. byte_in o (after (set_of shape (p / 16))) p (back p)) (gone-way (p / 16) ne s h single)
      ∙ gone_byte p victim.dirty refl s h inside clean
      ∙ ap (λ n. (cache n way).bytes (p % 16)) (sym s)
      ∙ sym (ap (λ o. byte_in o (cache (set_of shape (p / 16))) p (ram p)) (was-way (p / 16) s h single))

  -- ---- all of them

  pub filled-cached : (p : ℕ) → in_ram image p ≡ true → IsSingle shape cache (p / 16) → IsClean shape ram cache (p / 16)
      → cached shape back after p ≡ cached shape ram cache p
  filled-cached p inside single clean = by_line (p / 16 == line) refl
    where
      by_victim : (p / 16 ≡ line → ⊥) → (b : Bool) → (set_of shape (p / 16) == set && holds shape (p / 16) victim) ≡ b
          → cached shape back after p ≡ cached shape ram cache p
      by_victim ne true e = gone p ne (grind (arith, nat_tests)) (grind (arith, nat_tests)) inside single clean
      by_victim ne false e = quiet p ne (λ s h. grind (arith, nat_tests))

      by_line : (b : Bool) → (p / 16 == line) ≡ b → cached shape back after p ≡ cached shape ram cache p
      by_line true e = arrived p (grind (arith, nat_tests))
      by_line false e = by_victim (λ h. grind (arith, nat_tests)) (set_of shape (p / 16) == set && holds shape (p / 16) victim) refl

  filled-single : (other : ℕ) → IsSingle shape cache other → IsSingle shape after other
  filled-single other single v w l k h i = go (at (set_of shape other) v) (at (set_of shape other) w)
    where
      go : Place set way new cache (set_of shape other) v → Place set way new cache (set_of shape other) w → v ≡ w
      go (Here s q is) (Here t r js) = q ∙ sym r
      go (Here s q is) (There off js) =
          let e : other ≡ line = new_line other (set_of shape other) v refl s (ap (holds shape other) (sym is) ∙ h) in
          absurd (true≢false (sym (ap (λ n. has shape cache n w) (sym e) ∙ ap (holds shape other) (sym js) ∙ i) ∙ victim_misses w k))
      go (There off is) (Here t r js) =
          let e : other ≡ line = new_line other (set_of shape other) w refl t (ap (holds shape other) (sym js) ∙ i) in
          absurd (true≢false (sym (ap (λ n. has shape cache n v) (sym e) ∙ ap (holds shape other) (sym is) ∙ h) ∙ victim_misses v l))
      go (There off is) (There on js) = single v w l k (ap (holds shape other) (sym is) ∙ h) (ap (holds shape other) (sym js) ∙ i)

  filled-clean : (other : ℕ) → IsSingle shape cache other → IsClean shape ram cache other → IsClean shape back after other
  filled-clean other single clean w p l h dirty q = go (at (set_of shape other) w)
    where
      go : Place set way new cache (set_of shape other) w → (after (set_of shape other) w).bytes (p % 16) ≡ back p
      go (Here s r is) =
          let e : other ≡ line = new_line other (set_of shape other) w refl s (ap (holds shape other) (sym is) ∙ h) in
          ap (λ (slot : Slot). slot.bytes (p % 16)) is ∙ filled-byte shape back p line (q ∙ e)
      go (There off is) =
          let old : has shape cache other w ≡ true = ap (holds shape other) (sym is) ∙ h in
          ap (λ (slot : Slot). slot.bytes (p % 16)) is
          ∙ clean w p l old (ap (λ (slot : Slot). slot.dirty) (sym is) ∙ dirty) q
          ∙ sym
          (kept_byte image shape set victim ram p (λ s k. off (ap (set_of shape) (sym q) ∙ s)
          (single w way l below old (ap (λ n. holds shape other (cache n way)) (ap (set_of shape) (sym q) ∙ s) ∙ ap (λ n. holds shape n victim) (sym q)
          ∙ k))))

  pub filled-coherent : (out : ℕ → Bool) → Coherent shape out ram cache → Coherent shape out back after
  filled-coherent out coherent = record {
    single = λ other o. filled-single other (coherent.single other o);
    clean = λ other o. filled-clean other (coherent.single other o) (coherent.clean other o);
  }
