-- Reading and writing a word of a line that the cache holds. A word of a line is 0 to 3.
use Rattle.std.specs.Prelude.{ℕ, ◌+◌, ◌*◌, ◌/◌, ◌%◌, true, cond, List, [], ◌∷◌, Option, Some, None, slice_set}
use Rattle.std.specs.Int.{w32, from_le_bytes}
use Rattle.std.specs.Option.{option_map}
use Rattle.bit_field.specs.Lanes.{has_lane, lane_byte}
use Rattle.wb_cache.specs.Contents.{Contents, Slot, slot_of, slots}
use Rattle.wb_cache.specs.Lookup.{set_of, way_of}
use Rattle.wb_cache.specs.Replacement.{used}

-- a word of a slot, the byte of least address in its lowest bits
unfoldable pub word_at : Slot → ℕ → ℕ
word_at slot word =
    from_le_bytes w32 (slot.bytes (4 * word) ∷ slot.bytes (4 * word + 1) ∷ slot.bytes (4 * word + 2) ∷ slot.bytes (4 * word + 3) ∷ [])

-- the way of the contents where a line is found
abbrev pub found : Contents → ℕ → Option ℕ
found c line = way_of c.shape (slots c) line

-- the word of a line, where the cache holds it
unfoldable pub word_of : Contents → ℕ → ℕ → Option ℕ
word_of c line word = option_map (λ way. word_at (slots c (set_of c.shape line) way) word) (found c line)

-- the byte at a byte address, where the cache holds its line
unfoldable pub byte_of : Contents → ℕ → Option ℕ
byte_of c addr = option_map (λ way. (slots c (set_of c.shape (addr / 16)) way).bytes (addr % 16)) (found c (addr / 16))

-- a way of a set was used, and nothing else changes
abbrev pub touched : ℕ → ℕ → Contents → Contents
touched set way c = record c { nodes = used c.shape set way c.nodes }

abbrev pub on_hit : Option ℕ → (ℕ → Contents) → Contents → Contents
on_hit (Some way) change c = change way
on_hit None change c = c

-- the contents after a read of a line
unfoldable pub read : ℕ → Contents → Contents
read line c = on_hit (found c line) (λ way. touched (set_of c.shape line) way c) c

-- the bytes with a lane of the word at place `place` written, if the mask names it
abbrev pub put_lane : ℕ → ℕ → ℕ → ℕ → List ℕ → List ℕ
put_lane place mask value lane bytes = cond (has_lane mask lane) (slice_set bytes (place + lane) (lane_byte value lane)) bytes

-- the bytes with the lanes of a mask written
unfoldable pub put_word : ℕ → ℕ → ℕ → List ℕ → List ℕ
put_word place mask value bytes =
    put_lane place mask value 3 (put_lane place mask value 2 (put_lane place mask value 1 (put_lane place mask value 0 bytes)))

-- a word was written into a way of a set, which is dirty then, and the way was used
unfoldable pub put : ℕ → ℕ → ℕ → ℕ → ℕ → Contents → Contents
put set way word mask value c =
    touched set way (record c {
      bytes = put_word (16 * slot_of c.shape set way + 4 * word) mask value c.bytes;
      dirty = slice_set c.dirty (slot_of c.shape set way) true;
    })

-- the contents after a write of the lanes of a mask to a word of a line
unfoldable pub written : ℕ → ℕ → ℕ → ℕ → Contents → Contents
written line word mask value c = on_hit (found c line) (λ way. put (set_of c.shape line) way word mask value c) c
