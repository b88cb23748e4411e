-- A new cache holds nothing.
use Rattle.std.proofs.Common.{◌≡◌, ℕ, zero, suc, ◌+◌, ◌-◌, ◌*◌, ◌^◌, ◌<◌, Bool, true, false, cond, get_or, arith, refl}
use Rattle.std.specs.Prelude.{replicate, nat_lt}
use Rattle.std.proofs.lemmas.List.{length-replicate}
use Rattle.std.proofs.lemmas.List.Elements.{All-replicate}
use Rattle.std.proofs.lemmas.Nat.{pow_pos}
use Rattle.bit_field.specs.declared.shapes.Shape.{Shape}
use Rattle.bit_field.specs.Shapes.{IsShape, tag_bits, slots as slot_count}
use Rattle.wb_cache.specs.Contents.{IsSized, IsContents, Slot, empty, slots, slot_at, no_slot}
use Rattle.wb_cache.proofs.Slots.{same_slot}

pub same_everywhere : {A : Type 0} (n i : ℕ) (a : A) → get_or (replicate n a) i a ≡ a
same_everywhere zero i a = refl
same_everywhere (suc n) zero a = refl
same_everywhere (suc n) (suc i) a = same_everywhere n i a

no_byte : (b : Bool) (x : ℕ) → x ≡ 0 → cond b x 0 ≡ 0
no_byte true x e = e
no_byte false x e = refl

empty_at : (shape : Shape) (l : ℕ) → slot_at (empty shape) l ≡ no_slot
unfolding slot_at empty
empty_at shape l =
    same_slot _ _ (same_everywhere (slot_count shape) l false) (same_everywhere (slot_count shape) l false) (same_everywhere (slot_count shape) l 0)
    (λ o. no_byte (nat_lt o 16) _ (same_everywhere (16 * slot_count shape) (16 * l + o) 0))

empty_by : (b : Bool) (slot : Slot) → slot ≡ no_slot → cond b slot no_slot ≡ no_slot
empty_by true slot e = e
empty_by false slot e = refl

pub slots-empty : (shape : Shape) (set way : ℕ) → slots (empty shape) set way ≡ no_slot
unfolding slots
slots-empty shape set way = empty_by _ (slot_at (empty shape) _) (empty_at shape _)

pub sized-empty : (shape : Shape) → IsShape shape → IsSized (empty shape)
unfolding empty
sized-empty shape is = record {
  shape = is;
  bytes = length-replicate (16 * slot_count shape) 0;
  tags = length-replicate (slot_count shape) 0;
  valid = length-replicate (slot_count shape) false;
  dirty = length-replicate (slot_count shape) false;
  nodes = length-replicate (shape.sets * (shape.ways - 1)) false;
}

pub contents-empty : (shape : Shape) → IsShape shape → IsContents (empty shape)
unfolding empty
contents-empty shape is = record {
  sized = sized-empty shape is;
  bytes = All-replicate (λ b. b < 2 ^ 8) (16 * slot_count shape) 0 (omega arith);
  widths = All-replicate (λ t. t < 2 ^ tag_bits shape) (slot_count shape) 0 (pow_pos (tag_bits shape));
}
