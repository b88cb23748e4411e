-- A cache with another tag in one slot: valid and dirty bits, bytes and the way that makes place are the same, and a line is found alike
-- that neither tag names.
use Rattle.std.proofs.Common.{◌≡◌, ◌≢◌, ◌⊎◌, inl, inr, ℕ, ◌+◌, ◌*◌, ◌/◌, ◌<◌, Bool, true, false, cond, get_or, refl, sym, ◌∙◌, ap, arith}
use Rattle.std.specs.Prelude.{Option, Some, ◌==◌, ◌&&◌, nat_lt, not, slice_set}
use Rattle.std.proofs.lemmas.Bool.{cases_eq}
use Rattle.std.proofs.lemmas.Bool.Decides.{nat_tests}
use Rattle.std.proofs.lemmas.List.{get_or-set_other, get_or-set_same}
use Rattle.bit_field.specs.Shapes.{slots as slot_count}
use Rattle.wb_cache.specs.Access.{found}
use Rattle.wb_cache.specs.Changes.{set_at}
use Rattle.wb_cache.specs.Contents.{Contents, IsSized, Slot, no_slot, slot_at, slot_of, slots}
use Rattle.wb_cache.specs.Lookup.{holds, line_of, set_of, tag_of, way_of}
use Rattle.wb_cache.specs.Refill.{way_for}
use Rattle.wb_cache.specs.Replacement.{first_invalid, replaced, victim, way_or}
use Rattle.wb_cache.proofs.Find.{first_below-same, first_below-some}
use Rattle.wb_cache.proofs.Lines.{line_from_parts}
use Rattle.wb_cache.proofs.Slots.{slots-inside}
use Rattle.wb_cache.proofs.Sizes.{set_below}
use Rattle.cyc_machine.specs.Memory.{is_dirty_victim}

-- the set of a slot's number
set_by : (ways l set way : ℕ) → (ways ≡ 1) ⊎ (ways ≡ 2) ⊎ (ways ≡ 4) → way < ways → ways * set + way ≡ l → l / ways ≡ set
set_by ways l set way p h e = grind arith

module _ (c : Contents) (l tag : ℕ) (sized : IsSized c) (below : l < slot_count c.shape) where
  abbrev d : Contents
  d = record c { tags = slice_set c.tags l tag }

  valid-tags : (set way : ℕ) → (slots d set way).valid ≡ (slots c set way).valid
  unfolding slots slot_at
  valid-tags set way = go (nat_lt set c.shape.sets && nat_lt way c.shape.ways)
    where
      go : (b : Bool) → (cond b (slot_at d (slot_of c.shape set way)) no_slot).valid ≡ (cond b (slot_at c (slot_of c.shape set way)) no_slot).valid
      go true = unfold slot_at in refl
      go false = refl

  dirty-tags : (set way : ℕ) → (slots d set way).dirty ≡ (slots c set way).dirty
  unfolding slots slot_at
  dirty-tags set way = go (nat_lt set c.shape.sets && nat_lt way c.shape.ways)
    where
      go : (b : Bool) → (cond b (slot_at d (slot_of c.shape set way)) no_slot).dirty ≡ (cond b (slot_at c (slot_of c.shape set way)) no_slot).dirty
      go true = unfold slot_at in refl
      go false = refl

  pub bytes-tags : (set way o : ℕ) → (slots d set way).bytes o ≡ (slots c set way).bytes o
  unfolding slots slot_at
  bytes-tags set way o = go (nat_lt set c.shape.sets && nat_lt way c.shape.ways)
    where
      go : (b : Bool) → (cond b (slot_at d (slot_of c.shape set way)) no_slot).bytes o ≡ (cond b (slot_at c (slot_of c.shape set way)) no_slot).bytes o
      go true = unfold slot_at in refl
      go false = refl

  pub ways-tags : (line : ℕ) → way_for d line ≡ way_for c line
  unfolding victim first_invalid
  ways-tags line =
      ap (λ (o : Option ℕ). way_or o (replaced c.shape c.nodes (set_of c.shape line)))
      (first_below-same c.shape.ways _ _ (λ w l. ap not (valid-tags (set_of c.shape line) w)))

  pub dirties-tags : (line : ℕ) → is_dirty_victim d line ≡ is_dirty_victim c line
  dirties-tags line =
      ap (λ w. (slots d (set_of c.shape line) w).valid && (slots d (set_of c.shape line) w).dirty) (ways-tags line)
      ∙ rw (valid-tags (set_of c.shape line) (way_for c line), dirty-tags (set_of c.shape line) (way_for c line)) refl

  -- the tag of a slot in the shape
  tag-off : (set way : ℕ) → slot_of c.shape set way ≢ l → (slots d set way).tag ≡ (slots c set way).tag
  unfolding slots slot_at
  tag-off set way off = go (nat_lt set c.shape.sets && nat_lt way c.shape.ways)
    where
      go : (b : Bool) → (cond b (slot_at d (slot_of c.shape set way)) no_slot).tag ≡ (cond b (slot_at c (slot_of c.shape set way)) no_slot).tag
      go true = unfold slot_at in get_or-set_other c.tags l (slot_of c.shape set way) tag 0 off
      go false = refl

  tag-new : (set way : ℕ) → set < c.shape.sets → way < c.shape.ways → slot_of c.shape set way ≡ l → (slots d set way).tag ≡ tag
  unfolding slot_at
  tag-new set way h m e =
      ap (λ (slot : Slot). slot.tag) (slots-inside d set way h m) ∙ ap (λ i. get_or (slice_set c.tags l tag) i 0) e
      ∙ get_or-set_same c.tags l tag 0 (omega (arith, sized.tags))

  tag-old : (set way : ℕ) → set < c.shape.sets → way < c.shape.ways → slot_of c.shape set way ≡ l → (slots c set way).tag ≡ (slot_at c l).tag
  tag-old set way h m e = ap (λ (slot : Slot). slot.tag) (slots-inside c set way h m) ∙ ap (λ i. (slot_at c i).tag) e

  set-here : (line way : ℕ) → way < c.shape.ways → slot_of c.shape (set_of c.shape line) way ≡ l → set_at c.shape l ≡ set_of c.shape line
  set-here line way m e = set_by c.shape.ways l (set_of c.shape line) way sized.shape.ways m e

  named : (line t : ℕ) → set_at c.shape l ≡ set_of c.shape line → t ≡ tag_of c.shape line → line ≡ line_of c.shape (set_at c.shape l) t
  named line t s e = line_from_parts c.shape.sets line (set_at c.shape l) t (sym s) (sym e)

  no-match : (v : Bool) (t u : ℕ) → (t ≡ u → ⊥) → (v && t == u) ≡ false
  no-match true t u ne = grind (arith, nat_tests)
  no-match false t u ne = refl

  -- a way of a line that is neither of the two
  has-tags : (line way : ℕ) → way < c.shape.ways → line ≢ line_of c.shape (set_at c.shape l) (slot_at c l).tag → line ≢ line_of c.shape (set_at c.shape l) tag
      → holds c.shape line (slots d (set_of c.shape line) way) ≡ holds c.shape line (slots c (set_of c.shape line) way)
  has-tags line way m ne near = go (cases_eq (slot_of c.shape (set_of c.shape line) way) l)
    where
      inside : set_of c.shape line < c.shape.sets
      inside = set_below c.shape line sized.shape

      go : (slot_of c.shape (set_of c.shape line) way ≡ l) ⊎ (slot_of c.shape (set_of c.shape line) way ≢ l)
          → holds c.shape line (slots d (set_of c.shape line) way) ≡ holds c.shape line (slots c (set_of c.shape line) way)
      go (inl e) =
          no-match (slots d (set_of c.shape line) way).valid (slots d (set_of c.shape line) way).tag (tag_of c.shape line)
          (λ t. near (named line tag (set-here line way m e) (sym (tag-new (set_of c.shape line) way inside m e) ∙ t)))
          ∙ sym (no-match (slots c (set_of c.shape line) way).valid (slots c (set_of c.shape line) way).tag (tag_of c.shape line)
          (λ t. ne (named line (slot_at c l).tag (set-here line way m e) (sym (tag-old (set_of c.shape line) way inside m e) ∙ t))))
      go (inr off) =
          ap (λ v. v && (slots d (set_of c.shape line) way).tag == tag_of c.shape line) (valid-tags (set_of c.shape line) way)
          ∙ ap (λ t. (slots c (set_of c.shape line) way).valid && t == tag_of c.shape line) (tag-off (set_of c.shape line) way off)

  pub found-tags : (line : ℕ) → line ≢ line_of c.shape (set_at c.shape l) (slot_at c l).tag → line ≢ line_of c.shape (set_at c.shape l) tag
      → found d line ≡ found c line
  unfolding way_of
  found-tags line ne near = first_below-same c.shape.ways _ _ (λ w m. has-tags line w m ne near)

  -- a line that is found in slot l is the slot's
  pub found-here : (line way : ℕ) → found c line ≡ Some way → slot_of c.shape (set_of c.shape line) way ≡ l
      → line ≡ line_of c.shape (set_at c.shape l) (slot_at c l).tag
  unfolding way_of
  found-here line way h e =
      let first = first_below-some c.shape.ways way (λ w. holds c.shape line (slots c (set_of c.shape line) w)) h in
      let same : (slots c (set_of c.shape line) way).tag ≡ tag_of c.shape line =
      matched (slots c (set_of c.shape line) way).valid (slots c (set_of c.shape line) way).tag (tag_of c.shape line) first.passes in
      named line (slot_at c l).tag (set-here line way first.below e)
      (sym (tag-old (set_of c.shape line) way (set_below c.shape line sized.shape) first.below e) ∙ same)
    where
      matched : (v : Bool) (t u : ℕ) → (v && t == u) ≡ true → t ≡ u
      matched v t u h = grind (arith, nat_tests)
