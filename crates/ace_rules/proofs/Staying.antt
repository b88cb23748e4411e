-- The class of a bit stays where what it goes by stays.
use Rattle.std.proofs.Common.{◌≡◌, ◌+◌, ◌*◌, ◌/◌, ◌%◌, ◌≤◌, ◌<◌, ◌^◌, ◌&&◌, ℕ, Bool, true, false, not, List, nat_le, arith, refl, sym, ap, subst, ◌∙◌}
use Rattle.std.proofs.Common.{[], Some, if◌then◌else◌, slice_get}
use Rattle.std.specs.Prelude.{slice_index_or}
use Rattle.std.proofs.lemmas.Bool.Decides.{nat_tests}
use Rattle.bit_field.specs.Shapes.{IsPlaceIn, bits_in, slots as slot_count, tag_bits}
use Rattle.bit_field.specs.declared.shapes.Shape.{Shape}
use Rattle.bit_field.specs.declared.places.Place.{Place}
use Rattle.bit_field.specs.declared.places.Structure.{Structure}
use Rattle.bit_field.specs.declared.places.Structure.TheVariants.{CData, CDirty, CTag, CValid, Npc}
use Rattle.event_log.specs.Lookups.{distance_one}
use Rattle.event_log.specs.declared.next.Next.{Next}
use Rattle.line_life.specs.Lives.{Lives, next_in}
use Rattle.need_pass.specs.Tables.{Needs}
use Rattle.slot_history.specs.Histories.{Histories, held_in, next_change}
use Rattle.slot_history.specs.declared.changes.Held.{Held}
use Rattle.slot_history.specs.declared.changes.Held.TheVariants.{Vacant, Clean, Dirty}
use Rattle.slot_history.proofs.Shown.{same-until}
use Rattle.tag_dist.specs.Tables.{Tables}
use Rattle.wb_cache.specs.Changes.{set_at}
use Rattle.ace_class.specs.declared.class.Class.{Class}
use Rattle.ace_class.specs.declared.class.Class.TheVariants.{Ace, UnAce}
use Rattle.ace_class.specs.declared.class.Rule.TheVariants.{DeadData}
use Rattle.ace_law.specs.Classes.{IsClass}
use Rattle.ace_law.specs.Moments.{Moment}
use Rattle.ace_rules.specs.Analyses.{IsAnalysis}
use Rattle.ace_rules.specs.Asked.{IsLineHeld, clean_line, clean_tag, dirty_class, dirty_tag, is_accessed_again, is_dead, tag_class, unaccessed, valid_class}
use Rattle.ace_rules.specs.FirstRules.{class_by, no_rule}
use Rattle.ace_rules.specs.LineData.{data_class, is_dead_in, is_dead_line, is_unread}
use Rattle.ace_rules.specs.Notes.{Story, moment}
use Rattle.ace_rules.specs.PipelineTests.{IsOfTiming, timing_tests}
use Rattle.ace_rules.specs.Stays.{IsCleanTagUntil, IsDataUntil, IsDirtyDataUntil, IsDirtyUntil, IsTagUntil, IsValidUntil, Stays, StaysUnaccessed, after}
use Rattle.ace_rules.specs.Stays.{no_cycle, quiet_until}
use Rattle.ace_rules.specs.declared.note.Note.{Note}
use Rattle.ace_rules.proofs.KnownMoments.{data-tables, known, quiet-by, tables}
use Rattle.ace_rules.proofs.LineClass.{dirty-class-at, valid-class-at}
use Rattle.ace_rules.proofs.LineDataClass.{data-class, get-some, lines-below}
use Rattle.ace_rules.proofs.NextStays.{next-stays}
use Rattle.ace_rules.proofs.OneClass.{one_class}
use Rattle.ace_rules.proofs.StayingParts.{again-same, dead-same, not-again}
use Rattle.ace_rules.proofs.TagClass.{tag-class-at}
use Rattle.ace_rules.proofs.TimingClasses.{next_class, timing_class}

-- a class goes over from one cycle to another, where the classes by what is kept are the same
carried : (a b : Moment) (p : Place) (x y class : Class) → IsClass x a p → IsClass y b p → x ≡ y → IsClass class a p → IsClass class b p
carried a b p x y class here there same h = subst (λ (c : Class). IsClass c b p) (sym (one_class a p class x h here ∙ same)) there

-- ---- what stays

quiet-same : (quiet from t : ℕ) → from < t → t < quiet_until quiet from → nat_le quiet from ≡ nat_le quiet t
unfolding quiet_until
quiet-same quiet from t l below = go (nat_le quiet from) refl (nat_le quiet t) refl below
  where
    go : (a : Bool) → nat_le quiet from ≡ a → (b : Bool) → nat_le quiet t ≡ b → t < (if a then no_cycle else quiet)
        → nat_le quiet from ≡ nat_le quiet t
    go true p true q below = p ∙ sym q
    go false p false q below = p ∙ sym q
    go true p false q below =
        let early : quiet ≤ from = grind (arith, nat_tests) in
        let late : t < quiet = grind (arith, nat_tests) in
        absurd (omega (arith, early, late, l))
    go false p true q below = let early : quiet ≤ t = grind (arith, nat_tests) in absurd (omega (arith, early, below))

held-same : (slots : Histories) (l from t : ℕ) → from < t → t < next_change slots l from → held_in slots l from ≡ held_in slots l t
unfolding held_in next_change
held-same slots l from t later below = sym (same-until Vacant (slice_index_or slots.changes l []) from t (omega (arith, later)) below)

-- ---- the classes

module _ (story : Story) (table : Needs) (notes : List Note) (words : List ℕ) (quiet : ℕ) (life : Lives) (tags : Tables) (slots : Histories)
    (kept : IsAnalysis story table notes words quiet life tags slots) (from : ℕ) (running : from < story.r.cycles) where
  pub timing-stays : (s : Structure) (k : ℕ) → IsOfTiming s → Stays story (record { structure = s; bit = k }) from (quiet_until quiet from)
  timing-stays s k of class t later below within h =
      carried (moment story from) (moment story t) (record { structure = s; bit = k }) (class_by (timing_tests (nat_le quiet from)))
      (class_by (timing_tests (nat_le quiet t))) class
      (timing_class (moment story from) (nat_le quiet from) s k
      (quiet-by story table notes words quiet life tags slots kept story.r refl from running) of)
      (timing_class (moment story t) (nat_le quiet t) s k (quiet-by story table notes words quiet life tags slots kept story.r refl t within) of)
      (ap (λ (q : Bool). class_by (timing_tests q)) (quiet-same quiet from t later below)) h

  pub npc-stays : (k until : ℕ) → Stays story (record { structure = Npc; bit = k }) from until
  npc-stays k until class t later below within h =
      carried (moment story from) (moment story t) (record { structure = Npc; bit = k }) (class_by no_rule) (class_by no_rule) class
      (next_class (moment story from) k) (next_class (moment story t) k) refl h

  -- the note of a cycle
  noted : (t : ℕ) → t < story.r.cycles → (note : Note) × (slice_get notes t ≡ Some note)
  noted t below = let count = kept.noted.cycles in get-some notes t (omega (arith, count, below))

  module _ (note : Note) (at : slice_get notes from ≡ Some note) where
    -- ---- data

    dirty-dead : (l o j line until t : ℕ) (other : Note) → o < 16 → j < 8 → line < 2 ^ 28 → from < t → t < story.r.cycles
        → slice_get notes t ≡ Some other → held_in slots l from ≡ Dirty line → held_in slots l t ≡ Dirty line → t < until
        → IsDirtyDataUntil table notes note quiet (16 * line + o) j from until
        → is_dead_in table quiet slots l o j from (slice_get notes from) ≡ is_dead_in table quiet slots l o j t (slice_get notes t)
    unfolding is_dead_in is_dead_line
    dirty-dead l o j line until t other byte few low later within there is still below stays =
        rw (at, there, is, still) (go (nat_le quiet from) refl (nat_le quiet t) refl)
      where
        go : (a : Bool) → nat_le quiet from ≡ a → (b : Bool) → nat_le quiet t ≡ b
            → (nat_le quiet from && is_dead table note 0 (16 * line + o) j) ≡ (nat_le quiet t && is_dead table other 0 (16 * line + o) j)
        go true p true q =
            rw (p, q) (dead-same story table notes words quiet life tags slots kept from t (omega (arith, later)) within note other at there
            (16 * line + o) j until (omega (arith, byte, low)) few (stays.still p) below)
        go true p false q =
            let early : quiet ≤ from = grind (arith, nat_tests) in
            let late : t < quiet = grind (arith, nat_tests) in
            absurd (omega (arith, early, late, later))
        go false p true q =
            let soon = stays.loud p in
            let late : quiet ≤ t = grind (arith, nat_tests) in
            absurd (omega (arith, soon, late, below))
        go false p false q = rw (p, q) refl

    data-same : (l o j t until : ℕ) (other : Note) → l < slot_count story.r.shape → o < 16 → j < 8 → from < t → t < story.r.cycles
        → slice_get notes t ≡ Some other → (held : Held) → held_in slots l from ≡ held → IsLineHeld held
        → IsDataUntil table notes note quiet life l o j from (next_change slots l from) held until → t < until
        → data_class held (is_dead_in table quiet slots l o j from (slice_get notes from))
        (is_unread table notes quiet slots l o j (next_in life l o from))
        ≡ data_class (held_in slots l t) (is_dead_in table quiet slots l o j t (slice_get notes t))
        (is_unread table notes quiet slots l o j (next_in life l o t))
    unfolding data_class
    data-same l o j t until other in_cache byte few later within there Vacant is low stays below =
        rw (← held-same slots l from t later (omega (arith, stays, below)), is) refl
    data-same l o j t until other in_cache byte few later within there (Clean line) is low (change, soon) below =
        let at = kept.lives.next l o from in_cache byte in
        let there = kept.lives.next l o t in_cache byte in
        let same : next_in life l o t ≡ next_in life l o from =
        there ∙ next-stays story.r.shape l o from t story.r.events (omega (arith, later))
        (subst (λ (next : Next). t < after next) at (omega (arith, soon, below))) ∙ sym at in
        rw (← held-same slots l from t later (omega (arith, change, below)), is, same) refl
    data-same l o j t until other in_cache byte few later within there (Dirty line) is low (change, stays) below =
        let still : held_in slots l t ≡ Dirty line = sym (held-same slots l from t later (omega (arith, change, below))) ∙ is in
        rw still (ap (λ (dead : Bool). if dead then UnAce DeadData else Ace) (dirty-dead l o j line until t other byte few low later within there is
        still below stays))

    pub data-stays : (k until : ℕ) → k / 128 < slot_count story.r.shape
        → IsDataUntil table notes note quiet life (k / 128) (k % 128 / 8) (k % 8) from (next_change slots (k / 128) from)
        (held_in slots (k / 128) from) until
        → Stays story (record { structure = CData; bit = k }) from until
    data-stays k until in_cache stays class t later below within h =
        let (other, there) = noted t within in
        let kept_data = data-tables story table notes words quiet life tags slots kept story.r refl story.r.shape refl in
        carried (moment story from) (moment story t) (record { structure = CData; bit = k }) _ _ class
        (data-class story table notes quiet story.r.shape life slots kept_data k in_cache from running (held_in slots (k / 128) from) refl
        (next_in life (k / 128) (k % 128 / 8) from) refl)
        (data-class story table notes quiet story.r.shape life slots kept_data k in_cache t within (held_in slots (k / 128) t) refl
        (next_in life (k / 128) (k % 128 / 8) t) refl)
        (data-same (k / 128) (k % 128 / 8) (k % 8) t until other in_cache (omega arith) (omega arith) later within there
        (held_in slots (k / 128) from) refl
        (lines-below story table notes quiet story.r.shape life slots kept_data k in_cache from running) stays below)
        h

    -- ---- bits that only matter where a line is accessed again

    module _ (t : ℕ) (later : from < t) (within : t < story.r.cycles) (other : Note) (there : slice_get notes t ≡ Some other) where
      quiet-kept : (line until : ℕ) → StaysUnaccessed tags notes note quiet line from until → t < until → nat_le quiet from ≡ nat_le quiet t
      quiet-kept line until stays below = let q = stays.silent in quiet-same quiet from t later (omega (arith, q, below))

      again-kept : (line until : ℕ) → StaysUnaccessed tags notes note quiet line from until → t < until
          → is_accessed_again tags note line ≡ is_accessed_again tags other line
      again-kept line until stays below =
          again-same story table notes words quiet life tags slots kept from t (omega (arith, later)) within note other at there line until
          stays.accessed below

      unaccessed-same : (line until : ℕ) → StaysUnaccessed tags notes note quiet line from until → t < until
          → unaccessed tags note (nat_le quiet from) line ≡ unaccessed tags other (nat_le quiet t) line
      unfolding unaccessed
      unaccessed-same line until stays below = rw (quiet-kept line until stays below, again-kept line until stays below) refl

      -- ---- tags

      quiet-later : nat_le quiet from ≡ true → nat_le quiet t ≡ true
      quiet-later h = let l : quiet ≤ from = grind (arith, nat_tests) in grind (arith, nat_tests)

      clean-tag-same : (l line near until : ℕ) → IsCleanTagUntil tags notes note quiet l line near from until → t < until
          → clean_tag tags note (nat_le quiet from) from l line near ≡ clean_tag tags other (nat_le quiet t) t l line near
      unfolding clean_tag
      clean-tag-same l line near until stays below = go (nat_le quiet from) refl (is_accessed_again tags note near) refl
        where
          rest : (nat_le quiet from && not (is_accessed_again tags note near)) ≡ false
              → clean_tag tags note (nat_le quiet from) from l line near ≡ clean_tag tags other (nat_le quiet t) t l line near
          rest e =
              let (unaccessed, looked, near_looked) = stays.same e in
              rw (
                quiet-kept near until unaccessed below,
                again-kept near until unaccessed below,
                looked t (omega (arith, later)) below,
                near_looked t (omega (arith, later)) below,
              ) refl

          go : (q : Bool) → nat_le quiet from ≡ q → (a : Bool) → is_accessed_again tags note near ≡ a
              → clean_tag tags note (nat_le quiet from) from l line near ≡ clean_tag tags other (nat_le quiet t) t l line near
          go true p false n =
              let q = quiet-later p in
              let m : is_accessed_again tags other near ≡ false =
              not-again story table notes words quiet life tags slots kept from t (omega (arith, later)) within note other at there near n in
              rw (p, n, q, m) refl
          go true p true n = rest (rw (p, n) refl)
          go false p a n = rest (rw p refl)

      tag-same : (l j until : ℕ) (held : Held) → held_in slots l from ≡ held
          → IsTagUntil tags notes note quiet story.r.shape l j from (next_change slots l from) held until → t < until
          → tag_class tags note (nat_le quiet from) story.r.shape from l j held
          ≡ tag_class tags other (nat_le quiet t) story.r.shape t l j (held_in slots l t)
      unfolding tag_class dirty_tag
      tag-same l j until Vacant is stays below = rw (← held-same slots l from t later (omega (arith, stays, below)), is) refl
      tag-same l j until (Clean line) is (change, stays) below =
          rw (← held-same slots l from t later (omega (arith, change, below)), is)
          (clean-tag-same l line (distance_one story.r.shape line j) until stays below)
      tag-same l j until (Dirty line) is (change, stays, near) below =
          rw (
            ← held-same slots l from t later (omega (arith, change, below)),
            is,
            quiet-kept line until stays below,
            again-kept line until stays below,
            again-kept (distance_one story.r.shape line j) until near below,
          ) refl

      -- ---- valid and dirty bits

      valid-same : (l until : ℕ) (held : Held) → held_in slots l from ≡ held
          → IsValidUntil tags notes note quiet story.r.shape l from (next_change slots l from) held until → t < until
          → valid_class tags note (nat_le quiet from) story.r.shape l held ≡ valid_class tags other (nat_le quiet t) story.r.shape l (held_in slots l t)
      unfolding valid_class
      valid-same l until Vacant is (change, stays) below =
          rw (← held-same slots l from t later (omega (arith, change, below)), is) (unaccessed-same (set_at story.r.shape l) until stays below)
      valid-same l until (Clean line) is (change, silent) below =
          rw (← held-same slots l from t later (omega (arith, change, below)), is)
          (ap clean_line (quiet-same quiet from t later (omega (arith, silent, below))))
      valid-same l until (Dirty line) is (change, stays) below =
          rw (← held-same slots l from t later (omega (arith, change, below)), is) (unaccessed-same line until stays below)

      dirty-same : (l until : ℕ) (held : Held) → held_in slots l from ≡ held
          → IsDirtyUntil tags notes note quiet from (next_change slots l from) held until → t < until
          → dirty_class tags note (nat_le quiet from) held ≡ dirty_class tags other (nat_le quiet t) (held_in slots l t)
      unfolding dirty_class
      dirty-same l until Vacant is stays below = rw (← held-same slots l from t later (omega (arith, stays, below)), is) refl
      dirty-same l until (Clean line) is (change, silent) below =
          rw (← held-same slots l from t later (omega (arith, change, below)), is)
          (ap clean_line (quiet-same quiet from t later (omega (arith, silent, below))))
      dirty-same l until (Dirty line) is (change, stays) below =
          rw (← held-same slots l from t later (omega (arith, change, below)), is) (unaccessed-same line until stays below)

    pub tag-stays : (k until : ℕ) → k < slot_count story.r.shape * tag_bits story.r.shape
        → IsTagUntil tags notes note quiet story.r.shape (k / tag_bits story.r.shape) (k % tag_bits story.r.shape) from
        (next_change slots (k / tag_bits story.r.shape) from) (held_in slots (k / tag_bits story.r.shape) from) until
        → Stays story (record { structure = CTag; bit = k }) from until
    tag-stays k until in_cache stays class t later below within h =
        let (other, there) = noted t within in
        let at_from = tables story table notes words quiet life tags slots kept story.r refl from story.r.shape refl in
        let at_t = tables story table notes words quiet life tags slots kept story.r refl t story.r.shape refl in
        carried (moment story from) (moment story t) (record { structure = CTag; bit = k }) _ _ class
        (tag-class-at (moment story from) table note (nat_le quiet from)
        (known story table notes words quiet life tags slots kept story.r refl from note running at) story.r.shape tags slots from at_from k in_cache)
        (tag-class-at (moment story t) table other (nat_le quiet t)
        (known story table notes words quiet life tags slots kept story.r refl t other within there) story.r.shape tags slots t at_t k in_cache)
        (tag-same t later within other there (k / tag_bits story.r.shape) (k % tag_bits story.r.shape) until
        (held_in slots (k / tag_bits story.r.shape) from) refl stays below)
        h

    pub valid-stays : (l until : ℕ) → l < slot_count story.r.shape
        → IsValidUntil tags notes note quiet story.r.shape l from (next_change slots l from) (held_in slots l from) until
        → Stays story (record { structure = CValid; bit = l }) from until
    valid-stays l until in_cache stays class t later below within h =
        let (other, there) = noted t within in
        let at_from = tables story table notes words quiet life tags slots kept story.r refl from story.r.shape refl in
        let at_t = tables story table notes words quiet life tags slots kept story.r refl t story.r.shape refl in
        carried (moment story from) (moment story t) (record { structure = CValid; bit = l }) _ _ class
        (valid-class-at (moment story from) table note (nat_le quiet from)
        (known story table notes words quiet life tags slots kept story.r refl from note running at) story.r.shape tags slots from at_from l in_cache)
        (valid-class-at (moment story t) table other (nat_le quiet t)
        (known story table notes words quiet life tags slots kept story.r refl t other within there) story.r.shape tags slots t at_t l in_cache)
        (valid-same t later within other there l until (held_in slots l from) refl stays below) h

    pub dirty-stays : (l until : ℕ) → l < slot_count story.r.shape
        → IsDirtyUntil tags notes note quiet from (next_change slots l from) (held_in slots l from) until
        → Stays story (record { structure = CDirty; bit = l }) from until
    dirty-stays l until in_cache stays class t later below within h =
        let (other, there) = noted t within in
        let at_from = tables story table notes words quiet life tags slots kept story.r refl from story.r.shape refl in
        let at_t = tables story table notes words quiet life tags slots kept story.r refl t story.r.shape refl in
        carried (moment story from) (moment story t) (record { structure = CDirty; bit = l }) _ _ class
        (dirty-class-at (moment story from) table note (nat_le quiet from)
        (known story table notes words quiet life tags slots kept story.r refl from note running at) story.r.shape tags slots from at_from l in_cache)
        (dirty-class-at (moment story t) table other (nat_le quiet t)
        (known story table notes words quiet life tags slots kept story.r refl t other within there) story.r.shape tags slots t at_t l in_cache)
        (dirty-same t later within other there l until (held_in slots l from) refl stays below) h

  -- ---- as the code asks it, by the structure of a place

  at-place : (p : Place) (s : Structure) (until : ℕ) → p.structure ≡ s → Stays story (record { structure = s; bit = p.bit }) from until
      → Stays story p from until
  at-place p s until e h = subst (λ (s : Structure). Stays story (record { structure = s; bit = p.bit }) from until) (sym e) h

  bit-in : (p : Place) (s : Structure) → p.structure ≡ s → IsPlaceIn story.r.shape p → p.bit < bits_in s story.r.shape
  bit-in p s e h = subst (λ (s : Structure). p.bit < bits_in s story.r.shape) e h

  pub timing-at : (p : Place) (s : Structure) (until : ℕ) → p.structure ≡ s → IsOfTiming s → until ≡ quiet_until quiet from
      → Stays story p from until
  timing-at p s until e of is = at-place p s until e (rw is (timing-stays s p.bit of))

  pub npc-at : (p : Place) (until : ℕ) → p.structure ≡ Npc → Stays story p from until
  npc-at p until e = at-place p Npc until e (npc-stays p.bit until)

  pub data-at : (p : Place) (until : ℕ) (note : Note) → slice_get notes from ≡ Some note → p.structure ≡ CData → IsPlaceIn story.r.shape p
      → IsDataUntil table notes note quiet life (p.bit / 128) (p.bit % 128 / 8) (p.bit % 8) from (next_change slots (p.bit / 128) from)
      (held_in slots (p.bit / 128) from) until
      → Stays story p from until
  data-at p until note at e in_shape stays =
      let bit = bit-in p CData e in_shape in
      at-place p CData until e (data-stays note at p.bit until (omega (arith, bit)) stays)

  pub tag-at : (p : Place) (until : ℕ) (note : Note) → slice_get notes from ≡ Some note → (shape : Shape) → shape ≡ story.r.shape
      → p.structure ≡ CTag → IsPlaceIn story.r.shape p
      → IsTagUntil tags notes note quiet shape (p.bit / tag_bits shape) (p.bit % tag_bits shape) from
      (next_change slots (p.bit / tag_bits shape) from) (held_in slots (p.bit / tag_bits shape) from) until
      → Stays story p from until
  tag-at p until note at shape same e in_shape stays =
      let there = subst (λ (shape : Shape). IsTagUntil tags notes note quiet shape (p.bit / tag_bits shape) (p.bit % tag_bits shape) from
      (next_change slots (p.bit / tag_bits shape) from) (held_in slots (p.bit / tag_bits shape) from) until) same stays in
      at-place p CTag until e (tag-stays note at p.bit until (bit-in p CTag e in_shape) there)

  pub valid-at : (p : Place) (until : ℕ) (note : Note) → slice_get notes from ≡ Some note → (shape : Shape) → shape ≡ story.r.shape
      → p.structure ≡ CValid → IsPlaceIn story.r.shape p
      → IsValidUntil tags notes note quiet shape p.bit from (next_change slots p.bit from) (held_in slots p.bit from) until
      → Stays story p from until
  valid-at p until note at shape same e in_shape stays =
      let there = subst (λ (shape : Shape). IsValidUntil tags notes note quiet shape p.bit from (next_change slots p.bit from)
      (held_in slots p.bit from) until) same stays in
      at-place p CValid until e (valid-stays note at p.bit until (bit-in p CValid e in_shape) there)

  pub dirty-at : (p : Place) (until : ℕ) (note : Note) → slice_get notes from ≡ Some note → p.structure ≡ CDirty → IsPlaceIn story.r.shape p
      → IsDirtyUntil tags notes note quiet from (next_change slots p.bit from) (held_in slots p.bit from) until
      → Stays story p from until
  dirty-at p until note at e in_shape stays = at-place p CDirty until e (dirty-stays note at p.bit until (bit-in p CDirty e in_shape) stays)
