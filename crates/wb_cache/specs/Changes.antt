-- What a write, a refill and a strike do to the slots and to main memory, slot by slot and byte by byte.
use Rattle.std.specs.Prelude.{ℕ, ◌+◌, ◌*◌, ◌/◌, ◌%◌, ◌^◌, ◌==◌, ◌&&◌, true, false, not, cond, nat_lt, bit_xor}
use Rattle.bit_field.specs.declared.shapes.Shape.{Shape}
use Rattle.elf_load.specs.Image.{LoadedImage, in_ram}
use Rattle.bit_field.specs.Lanes.{has_lane, lane_byte}
use Rattle.wb_cache.specs.Contents.{Slot}
use Rattle.wb_cache.specs.Lookup.{set_of, tag_of}

-- the slots with one of them replaced
abbrev pub put_slot : ℕ → ℕ → Slot → (ℕ → ℕ → Slot) → ℕ → ℕ → Slot
put_slot set way slot cache s w = cond (s == set && w == way) slot (cache s w)

-- a slot with the lanes of a mask written in a word of its line
unfoldable pub written_slot : ℕ → ℕ → ℕ → Slot → Slot
written_slot word mask value slot = record {
  valid = slot.valid;
  dirty = true;
  tag = slot.tag;
  bytes = λ o. cond (o / 4 == word && has_lane mask (o % 4)) (lane_byte value (o % 4)) (slot.bytes o);
}

-- main memory with a slot of a set written back, where it is valid and dirty
unfoldable pub slot_written_back : LoadedImage → Shape → ℕ → Slot → (ℕ → ℕ) → ℕ → ℕ
slot_written_back image shape set slot ram p =
    cond (slot.valid && slot.dirty && (set_of shape (p / 16) == set && tag_of shape (p / 16) == slot.tag) && in_ram image p)
    (slot.bytes (p % 16))
    (ram p)

-- the slot of a line that was read in from main memory
unfoldable pub filled_slot : Shape → (ℕ → ℕ) → ℕ → Slot
filled_slot shape ram line = record {
  valid = true;
  dirty = false;
  tag = tag_of shape line;
  bytes = λ o. cond (nat_lt o 16) (ram (16 * line + o)) 0;
}

-- the set and the way of slot l
abbrev pub set_at : Shape → ℕ → ℕ
set_at shape l = l / shape.ways

abbrev pub way_at : Shape → ℕ → ℕ
way_at shape l = l % shape.ways

-- a slot with bit k of its data flipped, which is bit k % 8 of byte k / 8
unfoldable pub with_data_bit : ℕ → Slot → Slot
with_data_bit k slot = record slot { bytes = λ o. cond (o == k / 8) (bit_xor (slot.bytes o) (2 ^ (k % 8))) (slot.bytes o) }

-- a slot with bit k of its tag, with its valid bit or with its dirty bit flipped
abbrev pub with_tag_bit : ℕ → Slot → Slot
with_tag_bit k slot = record slot { tag = bit_xor slot.tag (2 ^ k) }

abbrev pub with_valid_bit : Slot → Slot
with_valid_bit slot = record slot { valid = not slot.valid }

abbrev pub with_dirty_bit : Slot → Slot
with_dirty_bit slot = record slot { dirty = not slot.dirty }
