-- The slots after a write: one slot is written, and every other stays.
use Rattle.std.proofs.Common.{◌≡◌, ◌≢◌, ◌⊎◌, inl, inr, ℕ, ◌+◌, ◌*◌, ◌/◌, ◌%◌, ◌<◌, ◌≤◌, true, false, cond, length, arith, ap, refl, sym, ◌∙◌}
use Rattle.std.specs.Prelude.{slice_index, ◌==◌, ◌&&◌, nat_lt}
use Rattle.std.proofs.lemmas.Bool.{cases_lt}
use Rattle.std.proofs.lemmas.Bool.Decides.{nat_tests}
use Rattle.std.proofs.lemmas.List.{get_or-set_same, get_or-set_other}
use Rattle.bit_field.specs.Lanes.{has_lane, lane_byte}
use Rattle.wb_cache.specs.Access.{put, put_word, touched}
use Rattle.wb_cache.specs.Changes.{put_slot, written_slot}
use Rattle.wb_cache.specs.Contents.{Contents, IsSized, slots, slot_at, slot_of}
use Rattle.wb_cache.proofs.Sizes.{slot_below}
use Rattle.wb_cache.proofs.Slots.{slots-changed, same_slot, valid-inside, tag-inside, byte-inside, byte-past}
use Rattle.wb_cache.proofs.Words.{put_word-here, put_word-other}

-- the nodes are no part of a slot
pub slots-touched : (c : Contents) (set way : ℕ) → slots (touched set way c) ≡ slots c
unfolding slots slot_at
slots-touched c set way = refl

-- a byte of a slot, by its offset
pub byte_by : (o : ℕ) → (o < 16) ⊎ (16 ≤ o) → (x y : ℕ) → (o < 16 → x ≡ y) → (16 ≤ o → y ≡ 0) → cond (nat_lt o 16) x 0 ≡ y
byte_by o (inl l) x y e f = grind (arith, nat_tests, e l)
byte_by o (inr l) x y e f = grind (arith, nat_tests, f l)

written_byte : (c : Contents) (set way word mask value o : ℕ) → IsSized c → set < c.shape.sets → way < c.shape.ways → word < 4
    → cond (nat_lt o 16) (slice_index (put_word (16 * slot_of c.shape set way + 4 * word) mask value c.bytes) (16 * slot_of c.shape set way + o)) 0 ≡ cond
    (o / 4 == word && has_lane mask (o % 4)) (lane_byte value (o % 4)) ((slots c set way).bytes o)
written_byte c set way word mask value o sized h l w =
    let below = slot_below c.shape set way sized.shape h l in
    byte_by o (cases_lt o 16) _ _
    (λ m. put_word-here (slot_of c.shape set way) word mask value o c.bytes w m (omega (arith, sized.bytes))
    ∙ ap (cond (o / 4 == word && has_lane mask (o % 4)) (lane_byte value (o % 4))) (sym (byte-inside c set way o h l m)))
    (λ m. grind (arith, nat_tests, byte-past c set way o m))

written_here : (c : Contents) (set way word mask value : ℕ) → IsSized c → set < c.shape.sets → way < c.shape.ways → word < 4
    → slot_at (put set way word mask value c) (slot_of c.shape set way) ≡ written_slot word mask value (slots c set way)
unfolding put slot_at written_slot
written_here c set way word mask value sized h l w =
    let below : slot_of c.shape set way < length c.dirty = rw (sized.dirty) (slot_below c.shape set way sized.shape h l) in
    same_slot _ _
    (sym (valid-inside c set way h l))
    (get_or-set_same c.dirty (slot_of c.shape set way) true false below)
    (sym (tag-inside c set way h l))
    (λ o. written_byte c set way word mask value o sized h l w)

written_other : (c : Contents) (set way word mask value m : ℕ) → m ≢ slot_of c.shape set way → word < 4
    → slot_at (put set way word mask value c) m ≡ slot_at c m
unfolding put slot_at
written_other c set way word mask value m ne w =
    same_slot _ _
    refl
    (get_or-set_other c.dirty (slot_of c.shape set way) m true false ne)
    refl
    (λ o. byte_by o (cases_lt o 16) _ _
    (λ l. put_word-other (slot_of c.shape set way) m word mask value o c.bytes ne w l ∙ grind (arith, nat_tests))
    (λ l. grind (arith, nat_tests)))

pub slots-put : (c : Contents) (set way word mask value : ℕ) → IsSized c → set < c.shape.sets → way < c.shape.ways → word < 4
    → slots (put set way word mask value c) ≡ put_slot set way (written_slot word mask value (slots c set way)) (slots c)
unfolding put
slots-put c set way word mask value sized h l w =
    slots-changed c (put set way word mask value c) set way (written_slot word mask value (slots c set way)) sized.shape refl h l
    (written_here c set way word mask value sized h l w)
    (λ m within ne. written_other c set way word mask value m ne w)
