-- The slots by set and way, as the arrays hold them.
use Rattle.std.proofs.Common.{◌≡◌, ◌≢◌, ◌⊎◌, inl, inr, ℕ, ◌+◌, ◌*◌, ◌<◌, ◌≤◌, false, arith, refl, ap, sym, ◌∙◌}
use Rattle.std.specs.Prelude.{slice_index, slice_index_or}
use Rattle.std.proofs.lemmas.Bool.{cases_lt, cases_eq}
use Rattle.std.proofs.lemmas.Bool.Decides.{nat_tests}
use mathlib.Core.Path.{fun_ext}
use Rattle.bit_field.specs.declared.shapes.Shape.{Shape}
use Rattle.bit_field.specs.Shapes.{IsShape, slots as slot_count}
use Rattle.wb_cache.specs.Changes.{put_slot}
use Rattle.wb_cache.specs.Contents.{Contents, Slot, slots, slot_at, slot_of, no_slot}
use Rattle.wb_cache.proofs.Sizes.{slot_below, slot_apart}

pub slots-inside : (c : Contents) (set way : ℕ) → set < c.shape.sets → way < c.shape.ways → slots c set way ≡ slot_at c (slot_of c.shape set way)
unfolding slots
slots-inside c set way h l = grind (arith, nat_tests)

-- none stands outside the shape
pub slots-outside : (c : Contents) (set way : ℕ) → (c.shape.sets ≤ set) ⊎ (c.shape.ways ≤ way) → slots c set way ≡ no_slot
unfolding slots
slots-outside c set way h = grind (arith, nat_tests)

pub valid-inside : (c : Contents) (set way : ℕ) → set < c.shape.sets → way < c.shape.ways
    → (slots c set way).valid ≡ slice_index_or c.valid (slot_of c.shape set way) false
unfolding slot_at
valid-inside c set way h l = rw (slots-inside c set way h l)

pub dirty-inside : (c : Contents) (set way : ℕ) → set < c.shape.sets → way < c.shape.ways
    → (slots c set way).dirty ≡ slice_index_or c.dirty (slot_of c.shape set way) false
unfolding slot_at
dirty-inside c set way h l = rw (slots-inside c set way h l)

pub tag-inside : (c : Contents) (set way : ℕ) → set < c.shape.sets → way < c.shape.ways → (slots c set way).tag ≡ slice_index c.tags (slot_of c.shape set way)
unfolding slot_at
tag-inside c set way h l = rw (slots-inside c set way h l)

pub byte-inside : (c : Contents) (set way o : ℕ) → set < c.shape.sets → way < c.shape.ways → o < 16
    → (slots c set way).bytes o ≡ slice_index c.bytes (16 * slot_of c.shape set way + o)
unfolding slot_at
byte-inside c set way o h l m = rw (slots-inside c set way h l) (grind (arith, nat_tests))

past_inside : (c : Contents) (set way o : ℕ) → set < c.shape.sets → way < c.shape.ways → 16 ≤ o → (slots c set way).bytes o ≡ 0
unfolding slot_at
past_inside c set way o h l m = rw (slots-inside c set way h l) (grind (arith, nat_tests))

-- no slot has more than 16 bytes
pub byte-past : (c : Contents) (set way o : ℕ) → 16 ≤ o → (slots c set way).bytes o ≡ 0
byte-past c set way o m =
    elim (cases_lt set c.shape.sets) [
      | inr out ↦ ap (λ (s : Slot). s.bytes o) (slots-outside c set way (inl out))
      | inl h ↦ elim (cases_lt way c.shape.ways) [
        | inr out ↦ ap (λ (s : Slot). s.bytes o) (slots-outside c set way (inr out))
        | inl l ↦ past_inside c set way o h l m
      ]
    ]

pub ruleset insides = (valid-inside, dirty-inside, tag-inside, byte-inside)

-- slots with equal parts are equal
pub same_slot : (a b : Slot) → a.valid ≡ b.valid → a.dirty ≡ b.dirty → a.tag ≡ b.tag → ((o : ℕ) → a.bytes o ≡ b.bytes o) → a ≡ b
same_slot a b v d t e = λ i. record { valid = v i; dirty = d i; tag = t i; bytes = λ o. e o i }

-- this slot or another
put_slot-here : (set way : ℕ) (slot : Slot) (cache : ℕ → ℕ → Slot) → put_slot set way slot cache set way ≡ slot
put_slot-here set way slot cache = grind (arith, nat_tests)

put_slot-off : (set way s w : ℕ) (slot : Slot) (cache : ℕ → ℕ → Slot) → (s ≡ set → w ≢ way) → put_slot set way slot cache s w ≡ cache s w
put_slot-off set way s w slot cache ne = grind (arith, nat_tests)

-- a slot in the shape, or outside
changed_inside : (c e : Contents) (set way : ℕ) (slot : Slot) → IsShape c.shape → e.shape ≡ c.shape → way < c.shape.ways
    → slot_at e (slot_of c.shape set way) ≡ slot → ((l : ℕ) → l < slot_count c.shape → l ≢ slot_of c.shape set way → slot_at e l ≡ slot_at c l) → (s w : ℕ)
    → s < c.shape.sets → w < c.shape.ways → slot_at e (slot_of c.shape s w) ≡ put_slot set way slot (slots c) s w
changed_inside c e set way slot shape same l here others s w p q =
    elim (cases_eq (slot_of c.shape s w) (slot_of c.shape set way)) [
      | inl is ↦
          let apart = slot_apart c.shape set way s w shape l q is in
          ap (λ (n : ℕ). slot_at e n) is ∙ here ∙ sym (rw (apart.0, apart.1) (put_slot-here set way slot (slots c)))
      | inr ne ↦
          others (slot_of c.shape s w) (slot_below c.shape s w shape p q) ne
          ∙ sym (slots-inside c s w p q)
          ∙ sym (put_slot-off set way s w slot (slots c) (λ a b. ne (rw (a, b) refl)))
    ]

changed_outside : (c e : Contents) (set way : ℕ) (slot : Slot) → e.shape ≡ c.shape → set < c.shape.sets → way < c.shape.ways → (s w : ℕ)
    → (c.shape.sets ≤ s) ⊎ (c.shape.ways ≤ w) → slots e s w ≡ put_slot set way slot (slots c) s w
changed_outside c e set way slot same h l s w out =
    slots-outside e s w (rw same out)
    ∙ sym (slots-outside c s w out)
    ∙ sym (put_slot-off set way s w slot (slots c) (λ a b. elim out [ inl m ↦ omega arith | inr m ↦ omega arith ]))

changed_at : (c e : Contents) (set way : ℕ) (slot : Slot) → IsShape c.shape → e.shape ≡ c.shape → set < c.shape.sets → way < c.shape.ways
    → slot_at e (slot_of c.shape set way) ≡ slot → ((l : ℕ) → l < slot_count c.shape → l ≢ slot_of c.shape set way → slot_at e l ≡ slot_at c l) → (s w : ℕ)
    → slots e s w ≡ put_slot set way slot (slots c) s w
changed_at c e set way slot shape same h l here others s w =
    elim (cases_lt s c.shape.sets) [
      | inr out ↦ changed_outside c e set way slot same h l s w (inl out)
      | inl p ↦ elim (cases_lt w c.shape.ways) [
        | inr out ↦ changed_outside c e set way slot same h l s w (inr out)
        | inl q ↦
            slots-inside e s w (rw same p) (rw same q)
            ∙ ap (λ (n : Shape). slot_at e (slot_of n s w)) same
            ∙ changed_inside c e set way slot shape same l here others s w p q
      ]
    ]

-- contents that differ in one slot
pub slots-changed : (c e : Contents) (set way : ℕ) (slot : Slot) → IsShape c.shape → e.shape ≡ c.shape → set < c.shape.sets → way < c.shape.ways
    → slot_at e (slot_of c.shape set way) ≡ slot → ((l : ℕ) → l < slot_count c.shape → l ≢ slot_of c.shape set way → slot_at e l ≡ slot_at c l)
    → slots e ≡ put_slot set way slot (slots c)
slots-changed c e set way slot shape same h l here others = fun_ext (λ s. fun_ext (λ w. changed_at c e set way slot shape same h l here others s w))
