-- The slots after a strike: one slot differs in one bit, and every other stays.
use Rattle.std.proofs.Common.{◌≡◌, ◌≢◌, ◌⊎◌, inl, inr, ℕ, ◌+◌, ◌*◌, ◌/◌, ◌%◌, ◌^◌, ◌<◌, ◌≤◌, false, cond, List, length, arith, ap, refl, sym, ◌∙◌}
use Rattle.std.specs.Prelude.{slice_index, bit_xor, ◌==◌, nat_lt}
use Rattle.std.proofs.lemmas.Bool.{cases_lt, cases_eq}
use Rattle.std.proofs.lemmas.Bool.Decides.{nat_tests}
use Rattle.std.proofs.lemmas.List.{get_or-set_same, get_or-set_other}
use Rattle.bit_field.specs.Shapes.{bits_in, tag_bits, slots as slot_count}
use Rattle.bit_field.specs.declared.places.Structure.TheVariants.{CData, CTag, CValid, CDirty, CLru}
use Rattle.wb_cache.specs.Bits.{flip_in, flip_data}
use Rattle.wb_cache.specs.Changes.{put_slot, with_data_bit, with_tag_bit, with_valid_bit, with_dirty_bit, set_at, way_at}
use Rattle.wb_cache.specs.Contents.{Contents, IsSized, Slot, slots, slot_at}
use Rattle.wb_cache.proofs.Sizes.{slot-split, tag_slot}
use Rattle.wb_cache.proofs.Slots.{slots-inside, slots-changed, same_slot}

-- contents that differ in slot l
pub slots-changed_at : (c e : Contents) (l : ℕ) (slot : Slot) → IsSized c → e.shape ≡ c.shape → l < slot_count c.shape → slot_at e l ≡ slot
    → ((m : ℕ) → m ≢ l → slot_at e m ≡ slot_at c m) → slots e ≡ put_slot (set_at c.shape l) (way_at c.shape l) slot (slots c)
slots-changed_at c e l slot sized same h here others =
    let split = slot-split c.shape l sized.shape h in
    slots-changed c e (set_at c.shape l) (way_at c.shape l) slot sized.shape same split.0 split.1 (ap (λ (n : ℕ). slot_at e n) split.2 ∙ here)
    (λ m within ne. others m (λ e. ne (e ∙ sym split.2)))

-- the slot of number l, by its set and way
pub slot-at : (c : Contents) (l : ℕ) → IsSized c → l < slot_count c.shape → slots c (set_at c.shape l) (way_at c.shape l) ≡ slot_at c l
slot-at c l sized h =
    let split = slot-split c.shape l sized.shape h in
    slots-inside c (set_at c.shape l) (way_at c.shape l) split.0 split.1 ∙ ap (λ (n : ℕ). slot_at c n) split.2

pub slots-flip_valid : (c : Contents) (k : ℕ) → IsSized c → k < bits_in CValid c.shape
    → slots (flip_in CValid c k) ≡ put_slot (set_at c.shape k) (way_at c.shape k) (with_valid_bit (slots c (set_at c.shape k) (way_at c.shape k))) (slots c)
unfolding slot_at
slots-flip_valid c k sized h =
    slots-changed_at c (flip_in CValid c k) k _ sized refl h
    (same_slot _ _ (get_or-set_same c.valid k _ false (rw (sized.valid) h)) refl refl (λ o. refl))
    (λ m ne. same_slot _ _ (get_or-set_other c.valid k m _ false ne) refl refl (λ o. refl))
    ∙ ap (λ (s : Slot). put_slot (set_at c.shape k) (way_at c.shape k) (with_valid_bit s) (slots c)) (sym (slot-at c k sized h))

pub slots-flip_dirty : (c : Contents) (k : ℕ) → IsSized c → k < bits_in CDirty c.shape
    → slots (flip_in CDirty c k) ≡ put_slot (set_at c.shape k) (way_at c.shape k) (with_dirty_bit (slots c (set_at c.shape k) (way_at c.shape k))) (slots c)
unfolding slot_at
slots-flip_dirty c k sized h =
    slots-changed_at c (flip_in CDirty c k) k _ sized refl h
    (same_slot _ _ refl (get_or-set_same c.dirty k _ false (rw (sized.dirty) h)) refl (λ o. refl))
    (λ m ne. same_slot _ _ refl (get_or-set_other c.dirty k m _ false ne) refl (λ o. refl))
    ∙ ap (λ (s : Slot). put_slot (set_at c.shape k) (way_at c.shape k) (with_dirty_bit s) (slots c)) (sym (slot-at c k sized h))

-- the replacement bits are no part of a slot
pub slots-flip_node : (c : Contents) (k : ℕ) → slots (flip_in CLru c k) ≡ slots c
unfolding slots slot_at
slots-flip_node c k = refl

-- byte o of slot m once bit k of the data is flipped
data_hit : (bytes : List ℕ) (k o : ℕ) → o ≡ k % 128 / 8 → k / 8 < length bytes
    → slice_index (flip_data bytes k) (16 * (k / 128) + o) ≡ bit_xor (slice_index bytes (16 * (k / 128) + o)) (2 ^ (k % 128 % 8))
data_hit bytes k o e within =
    let at : 16 * (k / 128) + o ≡ k / 8 = omega arith in
    let bit : k % 128 % 8 ≡ k % 8 = omega arith in
    rw (at, bit) (get_or-set_same bytes (k / 8) _ 0 within)

data_miss : (bytes : List ℕ) (k m o : ℕ) → o < 16 → (m ≡ k / 128 → o ≢ k % 128 / 8)
    → slice_index (flip_data bytes k) (16 * m + o) ≡ slice_index bytes (16 * m + o)
data_miss bytes k m o h ne = get_or-set_other bytes (k / 8) (16 * m + o) _ 0 (λ e. ne (omega arith) (omega arith))

data_byte : (bytes : List ℕ) (k o : ℕ) → k / 8 < length bytes → (o < 16) ⊎ (16 ≤ o) → (o ≡ k % 128 / 8) ⊎ (o ≢ k % 128 / 8)
    → cond (nat_lt o 16) (slice_index (flip_data bytes k) (16 * (k / 128) + o)) 0 ≡ cond (o == k % 128 / 8)
    (bit_xor (cond (nat_lt o 16) (slice_index bytes (16 * (k / 128) + o)) 0) (2 ^ (k % 128 % 8)))
    (cond (nat_lt o 16) (slice_index bytes (16 * (k / 128) + o)) 0)
data_byte bytes k o within (inl h) (inl e) = let hit = data_hit bytes k o e within in grind (arith, nat_tests)
data_byte bytes k o within (inl h) (inr ne) = let miss = data_miss bytes k (k / 128) o h (λ q. ne) in grind (arith, nat_tests)
data_byte bytes k o within (inr h) e = let other : o ≢ k % 128 / 8 = omega arith in grind (arith, nat_tests)

pub slots-flip_data : (c : Contents) (k : ℕ) → IsSized c → k < bits_in CData c.shape
    → slots (flip_in CData c k) ≡ put_slot (set_at c.shape (k / 128)) (way_at c.shape (k / 128))
    (with_data_bit (k % 128) (slots c (set_at c.shape (k / 128)) (way_at c.shape (k / 128)))) (slots c)
unfolding slot_at with_data_bit
slots-flip_data c k sized h =
    let below : k / 128 < slot_count c.shape = omega arith in
    let within : k / 8 < length c.bytes = omega (arith, sized.bytes) in
    slots-changed_at c (flip_in CData c k) (k / 128) (with_data_bit (k % 128) (slot_at c (k / 128))) sized refl below
    (same_slot _ _ refl refl refl (λ o. data_byte c.bytes k o within (cases_lt o 16) (cases_eq o (k % 128 / 8))))
    (λ m ne. same_slot _ _ refl refl refl (λ o. other_byte c.bytes k m o ne (cases_lt o 16)))
    ∙ ap (λ (s : Slot). put_slot (set_at c.shape (k / 128)) (way_at c.shape (k / 128)) (with_data_bit (k % 128) s) (slots c))
    (sym (slot-at c (k / 128) sized below))
  where
    other_byte : (bytes : List ℕ) (k m o : ℕ) → m ≢ k / 128 → (o < 16) ⊎ (16 ≤ o)
        → cond (nat_lt o 16) (slice_index (flip_data bytes k) (16 * m + o)) 0 ≡ cond (nat_lt o 16) (slice_index bytes (16 * m + o)) 0
    other_byte bytes k m o ne (inl h) = let miss = data_miss bytes k m o h (λ q. absurd (ne q)) in grind (arith, nat_tests)
    other_byte bytes k m o ne (inr h) = grind (arith, nat_tests)

pub slots-flip_tag : (c : Contents) (k : ℕ) → IsSized c → k < bits_in CTag c.shape
    → slots (flip_in CTag c k) ≡ put_slot (set_at c.shape (k / tag_bits c.shape)) (way_at c.shape (k / tag_bits c.shape))
    (with_tag_bit (k % tag_bits c.shape) (slots c (set_at c.shape (k / tag_bits c.shape)) (way_at c.shape (k / tag_bits c.shape)))) (slots c)
unfolding slot_at
slots-flip_tag c k sized h =
    let l : ℕ = k / tag_bits c.shape in
    let below : l < slot_count c.shape = tag_slot c.shape k sized.shape h in
    slots-changed_at c (flip_in CTag c k) l _ sized refl below
    (same_slot _ _ refl refl (get_or-set_same c.tags l _ 0 (rw (sized.tags) below)) (λ o. refl))
    (λ m ne. same_slot _ _ refl refl (get_or-set_other c.tags l m _ 0 ne) (λ o. refl))
    ∙ ap (λ (s : Slot). put_slot (set_at c.shape l) (way_at c.shape l) (with_tag_bit (k % tag_bits c.shape) s) (slots c)) (sym (slot-at c l sized below))
