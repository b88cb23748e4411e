-- What a write and a refill do, byte by byte. A byte is named by its address; where the cache holds its line, it gives the byte.
use Rattle.std.specs.Prelude.{◌≡◌, ◌≢◌, ℕ, ◌/◌, ◌%◌, ◌==◌, ◌&&◌, Bool, true, cond, List, Some}
use Rattle.std.specs.Option.{option_map}
use Rattle.bit_field.specs.Lanes.{has_lane, lane_byte}
use Rattle.elf_load.specs.Image.{LoadedImage, ram_byte}
use Rattle.wb_cache.specs.Access.{byte_of, found}
use Rattle.wb_cache.specs.Changes.{filled_slot, put_slot, slot_written_back, written_slot}
use Rattle.wb_cache.specs.Contents.{Contents, Slot, slots}
use Rattle.wb_cache.specs.Lookup.{holds, set_of}
use Rattle.wb_cache.specs.Refill.{way_for}

-- whether the byte at an address is one of the lanes of a mask in a word of a line
abbrev pub is_lane_of : ℕ → ℕ → ℕ → ℕ → Bool
is_lane_of line word mask p = p / 16 == line && p % 16 / 4 == word && has_lane mask (p % 4)

-- A write of the lanes of a mask to a word of a line. Each byte that the cache gives is that of the value where it is one of these
-- lanes, and else as it was; on a miss none is. The slot where the line was found is dirty; every other slot stays.
pub record WritesLanes (line word mask value : ℕ) (before after : Contents) : Type 0 where
  pub bytes : (p : ℕ) → byte_of after p ≡ option_map (λ old. cond (is_lane_of line word mask p) (lane_byte value (p % 4)) old) (byte_of before p)
  pub slot : (way : ℕ) → found before line ≡ Some way
      → slots after ≡ put_slot (set_of before.shape line) way (written_slot word mask value (slots before (set_of before.shape line) way)) (slots before)

-- the slot that a refill of a line replaces
abbrev pub victim_of : Contents → ℕ → Slot
victim_of c line = slots c (set_of c.shape line) (way_for c line)

-- A refill of a line that the cache doesn't hold. Main memory has the bytes of the victim's line where the victim was valid and dirty,
-- but for those outside RAM, which are dropped; its other bytes stay. The cache gives each byte of the line as main memory
-- has it then, 0 outside RAM, and each byte of a line that the victim didn't hold as before. The slot is valid and clean; every other
-- slot stays.
pub record RefillsLine (image : LoadedImage) (line : ℕ) (before after : Contents) (old new : List ℕ) : Type 0 where
  pub memory : (p : ℕ) → ram_byte image new p
      ≡ slot_written_back image before.shape (set_of before.shape line) (victim_of before line) (ram_byte image old) p
  pub arrives : (p : ℕ) → p / 16 ≡ line → byte_of after p ≡ Some (ram_byte image new p)
  pub stays : (p : ℕ) → p / 16 ≢ line
      → (set_of before.shape (p / 16) ≡ set_of before.shape line → holds before.shape (p / 16) (victim_of before line) ≡ true → ⊥)
      → byte_of after p ≡ byte_of before p
  pub slot : slots after ≡ put_slot (set_of before.shape line) (way_for before line) (filled_slot before.shape (ram_byte image new) line) (slots before)
