-- Every call keeps the shape, the lengths of the arrays and the widths of bytes and tags.
use Rattle.std.proofs.Common.{◌≡◌, ℕ, zero, suc, ◌+◌, ◌-◌, ◌*◌, ◌^◌, ◌<◌, Bool, true, false, cond, List, length, arith, refl, ◌++◌, take, drop}
use Rattle.std.proofs.Math.ListN.{length-set, set}
use Rattle.std.specs.List.{replace_range}
use Rattle.std.specs.Prelude.{Option, Some, None, ◌&&◌, slice_index, slice_index_or, slice_range, replicate}
use Rattle.std.proofs.lemmas.List.Elements.{All-set, All-append, All-take, All-drop, All-replicate}
use Rattle.bit_field.proofs.CacheShape.{tag_below}
use Rattle.bit_field.specs.Shapes.{tag_bits, slots as slot_count}
use Rattle.elf_load.specs.Image.{LoadedImage, IsImage, in_ram}
use Rattle.bit_field.specs.Lanes.{has_lane, lane_byte}
use Rattle.wb_cache.specs.Access.{put, put_word, put_lane, touched, read, written, found, on_hit}
use Rattle.wb_cache.specs.Contents.{AreBytes, Contents, IsContents, IsSized, slots, slot_of}
use Rattle.wb_cache.specs.Lookup.{line_of, set_of, tag_of}
use Rattle.wb_cache.specs.Refill.{filled, refilled, memory_refilled, line_bytes, place_of, put_line, way_for, written_back}
use Rattle.wb_cache.proofs.Calls.{length-after_refill}
use Rattle.wb_cache.proofs.Lengths.{sized-same, length-used, length-put_word, length-replace}
use Rattle.wb_cache.proofs.Ram.{length-line_bytes}
use Rattle.wb_cache.proofs.Sizes.{set_below, slot_below}
use Rattle.wb_cache.proofs.Victims.{victim-below}

-- ---- the shape

hit-shape : (c : Contents) (change : ℕ → Contents) (o : Option ℕ) → ((w : ℕ) → (change w).shape ≡ c.shape) → (on_hit o change c).shape ≡ c.shape
hit-shape c change (Some w) same = same w
hit-shape c change None same = refl

pub shape-after_read : (c : Contents) (line : ℕ) → (read line c).shape ≡ c.shape
unfolding read
shape-after_read c line = hit-shape c _ (found c line) (λ w. refl)

pub shape-after_write : (c : Contents) (line word mask value : ℕ) → (written line word mask value c).shape ≡ c.shape
unfolding written put
shape-after_write c line word mask value = hit-shape c _ (found c line) (λ w. refl)

pub shape-after_refill : (image : LoadedImage) (line : ℕ) (memory : List ℕ) (c : Contents) → (refilled image line memory c).shape ≡ c.shape
unfolding refilled filled
shape-after_refill image line memory c = refl

-- ---- lengths

touched-sized : (c : Contents) (set way : ℕ) → IsSized c → IsSized (touched set way c)
touched-sized c set way sized = sized-same c _ sized refl refl refl refl refl (length-used c.shape set way c.nodes)

pub sized-after_read : (c : Contents) (line : ℕ) → IsSized c → IsSized (read line c)
unfolding read
sized-after_read c line sized = go (found c line)
  where
    go : (o : Option ℕ) → IsSized (on_hit o (λ w. touched (set_of c.shape line) w c) c)
    go (Some w) = touched-sized c (set_of c.shape line) w sized
    go None = sized

put-sized : (c : Contents) (set way word mask value : ℕ) → IsSized c → IsSized (put set way word mask value c)
unfolding put
put-sized c set way word mask value sized =
    sized-same c _ sized refl (length-put_word _ mask value c.bytes) refl refl (length-set c.dirty _ _) (length-used c.shape set way c.nodes)

pub sized-after_write : (c : Contents) (line word mask value : ℕ) → IsSized c → IsSized (written line word mask value c)
unfolding written
sized-after_write c line word mask value sized = go (found c line)
  where
    go : (o : Option ℕ) → IsSized (on_hit o (λ w. put (set_of c.shape line) w word mask value c) c)
    go (Some w) = put-sized c (set_of c.shape line) w word mask value sized
    go None = sized

filled-sized : (image : LoadedImage) (line way : ℕ) (memory : List ℕ) (c : Contents) → IsImage image → length memory ≡ length image.ram → way < c.shape.ways
    → IsSized c → IsSized (filled image line way memory c)
unfolding filled
filled-sized image line way memory c is long w sized =
    let below : slot_of c.shape (set_of c.shape line) way < slot_count c.shape =
    slot_below c.shape (set_of c.shape line) way sized.shape (set_below c.shape line sized.shape) w in
    sized-same c _ sized refl (length-replace c.bytes (line_bytes image line memory) _ _ (omega (arith, length-line_bytes image line memory is long))
    (omega (arith, sized.bytes))) (length-set c.tags _ _) (length-set c.valid _ _) (length-set c.dirty _ _) (length-used c.shape
    (set_of c.shape line) way c.nodes)

pub sized-after_refill : (image : LoadedImage) (line : ℕ) (memory : List ℕ) (c : Contents) → IsImage image → length memory ≡ length image.ram → IsSized c
    → IsSized (refilled image line memory c)
unfolding refilled
sized-after_refill image line memory c is long sized =
    filled-sized image line (way_for c line) (memory_refilled image line c memory) c is (length-after_refill image line memory c is long sized)
    (victim-below c.shape (slots c) c.nodes (set_of c.shape line) sized.shape) sized

-- ---- bytes

lane_byte-below : (value lane : ℕ) → lane_byte value lane < 2 ^ 8
lane_byte-below value zero = omega arith
lane_byte-below value (suc zero) = omega arith
lane_byte-below value (suc (suc zero)) = omega arith
lane_byte-below value (suc (suc (suc zero))) = omega arith
lane_byte-below value (suc (suc (suc (suc lane)))) = omega arith

lane_kept : (b : Bool) (bytes : List ℕ) (i v : ℕ) → v < 2 ^ 8 → AreBytes bytes → AreBytes (cond b (set bytes i v) bytes)
lane_kept true bytes i v h are = All-set (λ b. b < 2 ^ 8) bytes i v h are
lane_kept false bytes i v h are = are

put_lane-kept : (place mask value lane : ℕ) (bytes : List ℕ) → AreBytes bytes → AreBytes (put_lane place mask value lane bytes)
put_lane-kept place mask value lane bytes are = lane_kept (has_lane mask lane) bytes (place + lane) (lane_byte value lane) (lane_byte-below value lane) are

put_word-kept : (place mask value : ℕ) (bytes : List ℕ) → AreBytes bytes → AreBytes (put_word place mask value bytes)
unfolding put_word
put_word-kept place mask value bytes are =
    put_lane-kept place mask value 3 _ (put_lane-kept place mask value 2 _ (put_lane-kept place mask value 1 _ (put_lane-kept place mask value 0 bytes are)))

range-kept : (xs : List ℕ) (i j : ℕ) → AreBytes xs → AreBytes (slice_range xs i j)
range-kept xs i j are = All-take (λ b. b < 2 ^ 8) (j - i) (drop i xs) (All-drop (λ b. b < 2 ^ 8) i xs are)

replaced-kept : (xs ys : List ℕ) (i j : ℕ) → AreBytes xs → AreBytes ys → AreBytes (replace_range xs i j ys)
replaced-kept xs ys i j h l =
    All-append (λ b. b < 2 ^ 8) (take i xs ++ ys) (drop j xs)
    (All-append (λ b. b < 2 ^ 8) (take i xs) ys (All-take (λ b. b < 2 ^ 8) i xs h) l)
    (All-drop (λ b. b < 2 ^ 8) j xs h)

line_bytes-kept : (image : LoadedImage) (line : ℕ) (memory : List ℕ) → AreBytes memory → AreBytes (line_bytes image line memory)
unfolding line_bytes
line_bytes-kept image line memory are = go (in_ram image (16 * line))
  where
    go : (b : Bool) → AreBytes (cond b (slice_range memory (place_of image line) (place_of image line + 16)) (replicate 16 0))
    go true = range-kept memory _ _ are
    go false = All-replicate (λ b. b < 2 ^ 8) 16 0 (omega arith)

put_line-kept : (image : LoadedImage) (line : ℕ) (bytes memory : List ℕ) → AreBytes bytes → AreBytes memory → AreBytes (put_line image line bytes memory)
unfolding put_line
put_line-kept image line bytes memory h l = go (in_ram image (16 * line))
  where
    go : (b : Bool) → AreBytes (cond b (replace_range memory (place_of image line) (place_of image line + 16) bytes) memory)
    go true = replaced-kept memory bytes _ _ l h
    go false = l

written_back-kept : (image : LoadedImage) (set way : ℕ) (c : Contents) (memory : List ℕ) → AreBytes c.bytes → AreBytes memory
    → AreBytes (written_back image set way c memory)
unfolding written_back
written_back-kept image set way c memory h l =
    go (slice_index_or c.valid (slot_of c.shape set way) false && slice_index_or c.dirty (slot_of c.shape set way) false)
  where
    go : (b : Bool)
        → AreBytes (cond b (put_line image (line_of c.shape set (slice_index c.tags (slot_of c.shape set way)))
        (slice_range c.bytes (16 * slot_of c.shape set way) (16 * slot_of c.shape set way + 16)) memory) memory)
    go true = put_line-kept image _ _ memory (range-kept c.bytes _ _ h) l
    go false = l

pub bytes-after_read : (c : Contents) (line : ℕ) → AreBytes c.bytes → AreBytes (read line c).bytes
unfolding read
bytes-after_read c line are = go (found c line)
  where
    go : (o : Option ℕ) → AreBytes (on_hit o (λ w. touched (set_of c.shape line) w c) c).bytes
    go (Some w) = are
    go None = are

pub bytes-after_write : (c : Contents) (line word mask value : ℕ) → AreBytes c.bytes → AreBytes (written line word mask value c).bytes
unfolding written put
bytes-after_write c line word mask value are = go (found c line)
  where
    go : (o : Option ℕ) → AreBytes (on_hit o (λ w. put (set_of c.shape line) w word mask value c) c).bytes
    go (Some w) = put_word-kept _ mask value c.bytes are
    go None = are

pub memory-bytes-after_refill : (image : LoadedImage) (line : ℕ) (c : Contents) (memory : List ℕ) → AreBytes c.bytes → AreBytes memory
    → AreBytes (memory_refilled image line c memory)
unfolding memory_refilled
memory-bytes-after_refill image line c memory h l = written_back-kept image (set_of c.shape line) (way_for c line) c memory h l

filled-bytes : (image : LoadedImage) (line way : ℕ) (memory : List ℕ) (c : Contents) → AreBytes c.bytes → AreBytes memory
    → AreBytes (filled image line way memory c).bytes
unfolding filled
filled-bytes image line way memory c h l = replaced-kept c.bytes (line_bytes image line memory) _ _ h (line_bytes-kept image line memory l)

pub bytes-after_refill : (image : LoadedImage) (line : ℕ) (memory : List ℕ) (c : Contents) → AreBytes c.bytes
    → AreBytes (memory_refilled image line c memory) → AreBytes (refilled image line memory c).bytes
unfolding refilled
bytes-after_refill image line memory c h l = filled-bytes image line (way_for c line) (memory_refilled image line c memory) c h l

-- ---- all of it

touched-kept : (c : Contents) (set way : ℕ) → IsContents c → IsContents (touched set way c)
touched-kept c set way is = record { sized = touched-sized c set way is.sized; bytes = is.bytes; widths = is.widths }

put-kept : (c : Contents) (set way word mask value : ℕ) → IsContents c → IsContents (put set way word mask value c)
unfolding put
put-kept c set way word mask value is = record {
  sized = put-sized c set way word mask value is.sized;
  bytes = put_word-kept _ mask value c.bytes is.bytes;
  widths = is.widths;
}

filled-kept : (image : LoadedImage) (line way : ℕ) (memory : List ℕ) (c : Contents) → IsImage image → length memory ≡ length image.ram → AreBytes memory
    → line < 2 ^ 28 → way < c.shape.ways → IsContents c → IsContents (filled image line way memory c)
unfolding filled
filled-kept image line way memory c is_image long are l w is = record {
  sized = filled-sized image line way memory c is_image long w is.sized;
  bytes = filled-bytes image line way memory c is.bytes are;
  widths = All-set (λ t. t < 2 ^ tag_bits c.shape) c.tags _ (tag_of c.shape line) (tag_below c.shape line is.sized.shape l) is.widths;
}

pub contents-after_read : (c : Contents) (line : ℕ) → IsContents c → IsContents (read line c)
unfolding read
contents-after_read c line is = go (found c line)
  where
    go : (way : Option ℕ) → IsContents (on_hit way (λ w. touched (set_of c.shape line) w c) c)
    go (Some way) = touched-kept c (set_of c.shape line) way is
    go None = is

pub contents-after_write : (c : Contents) (line word mask value : ℕ) → IsContents c → IsContents (written line word mask value c)
unfolding written
contents-after_write c line word mask value is = go (found c line)
  where
    go : (way : Option ℕ) → IsContents (on_hit way (λ w. put (set_of c.shape line) w word mask value c) c)
    go (Some way) = put-kept c (set_of c.shape line) way word mask value is
    go None = is

pub contents-after_refill : (image : LoadedImage) (line : ℕ) (memory : List ℕ) (c : Contents) → IsImage image → length memory ≡ length image.ram
    → AreBytes (memory_refilled image line c memory) → line < 2 ^ 28 → IsContents c → IsContents (refilled image line memory c)
unfolding refilled
contents-after_refill image line memory c is_image long are l is =
    filled-kept image line (way_for c line) (memory_refilled image line c memory) c is_image
    (length-after_refill image line memory c is_image long is.sized) are l (victim-below c.shape (slots c) c.nodes (set_of c.shape line) is.sized.shape) is
