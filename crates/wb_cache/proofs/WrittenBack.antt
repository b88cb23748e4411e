-- Main memory after a write-back, byte by byte, and the whole refill.
use Rattle.std.proofs.Common.{◌≡◌, ℕ, ◌+◌, ◌*◌, ◌/◌, ◌%◌, ◌<◌, Bool, true, false, cond, List, length, arith, ap, refl, sym, ◌∙◌}
use Rattle.std.specs.Prelude.{slice_index, slice_index_or, slice_range, ◌==◌, ◌&&◌}
use mathlib.Core.Path.{fun_ext}
use Rattle.bit_field.specs.Shapes.{slots as slot_count}
use Rattle.elf_load.specs.Image.{LoadedImage, IsImage, in_ram, ram_byte}
use Rattle.wb_cache.specs.Changes.{put_slot, filled_slot, slot_written_back}
use Rattle.wb_cache.specs.Contents.{Contents, IsSized, slots, slot_of}
use Rattle.wb_cache.specs.Lookup.{set_of, tag_of, line_of}
use Rattle.wb_cache.specs.Refill.{refilled, written_back, memory_refilled, put_line, way_for}
use Rattle.wb_cache.proofs.Filled.{slots-filled}
use Rattle.wb_cache.proofs.Lines.{one_line}
use Rattle.wb_cache.proofs.Ram.{put_line-read, length-put_line}
use Rattle.wb_cache.proofs.Ranges.{range-read, length-range}
use Rattle.wb_cache.proofs.Sizes.{slot_below}
use Rattle.wb_cache.proofs.Slots.{valid-inside, dirty-inside, tag-inside, byte-inside}

-- the bytes of a slot go to the line of its set and tag
put_back : (image : LoadedImage) (set way p : ℕ) (memory : List ℕ) (c : Contents) → IsImage image → length memory ≡ length image.ram → IsSized c
    → set < c.shape.sets → way < c.shape.ways
    → ram_byte image (put_line image (line_of c.shape set (slice_index c.tags (slot_of c.shape set way)))
    (slice_range c.bytes (16 * slot_of c.shape set way) (16 * slot_of c.shape set way + 16)) memory) p ≡ cond
    ((set_of c.shape (p / 16) == set && tag_of c.shape (p / 16) == (slots c set way).tag) && in_ram image p) ((slots c set way).bytes (p % 16))
    (ram_byte image memory p)
put_back image set way p memory c is long sized h l =
    let n : ℕ = slot_of c.shape set way in
    let below : n < slot_count c.shape = slot_below c.shape set way sized.shape h l in
    let offset : p % 16 < 16 = omega arith in
    let sixteen : length (slice_range c.bytes (16 * n) (16 * n + 16)) ≡ 16 =
    length-range c.bytes (16 * n) (16 * n + 16) (omega arith) (omega (arith, sized.bytes)) ∙ omega arith in
    let read : slice_index (slice_range c.bytes (16 * n) (16 * n + 16)) (p % 16) ≡ (slots c set way).bytes (p % 16) =
    range-read c.bytes (16 * n) (16 * n + 16) (p % 16) (omega arith) ∙ sym (byte-inside c set way (p % 16) h l offset) in
    let line : (p / 16 == line_of c.shape set (slice_index c.tags n)) ≡ (set_of c.shape (p / 16) == set && tag_of c.shape (p / 16) == (slots c set way).tag) =
    one_line c.shape.sets (p / 16) set (slice_index c.tags n) h
    ∙ ap (λ (t : ℕ). set_of c.shape (p / 16) == set && tag_of c.shape (p / 16) == t) (sym (tag-inside c set way h l)) in
    put_line-read image (line_of c.shape set (slice_index c.tags n)) p (slice_range c.bytes (16 * n) (16 * n + 16)) memory is long sixteen
    ∙ ap (λ (b : Bool). cond (b && in_ram image p) (slice_index (slice_range c.bytes (16 * n) (16 * n + 16)) (p % 16)) (ram_byte image memory p)) line
    ∙ ap (λ (x : ℕ). cond ((set_of c.shape (p / 16) == set && tag_of c.shape (p / 16) == (slots c set way).tag) && in_ram image p) x
    (ram_byte image memory p)) read

back_by : (image : LoadedImage) (p x y : ℕ) (put memory : List ℕ) (v d e r : Bool) → ram_byte image memory p ≡ y → ram_byte image put p ≡ cond (e && r) x y
    → ram_byte image (cond (v && d) put memory) p ≡ cond (v && d && e && r) x y
back_by image p x y put memory true true e r kept back = back
back_by image p x y put memory true false e r kept back = kept
back_by image p x y put memory false d e r kept back = kept

pub ram-written_back : (image : LoadedImage) (set way p : ℕ) (memory : List ℕ) (c : Contents) → IsImage image → length memory ≡ length image.ram → IsSized c
    → set < c.shape.sets → way < c.shape.ways
    → ram_byte image (written_back image set way c memory) p ≡ slot_written_back image c.shape set (slots c set way) (ram_byte image memory) p
unfolding written_back slot_written_back
ram-written_back image set way p memory c is long sized h l =
    rw (valid-inside c set way h l, dirty-inside c set way h l)
    (back_by image p ((slots c set way).bytes (p % 16)) (ram_byte image memory p) _ memory (slice_index_or c.valid (slot_of c.shape set way) false)
    (slice_index_or c.dirty (slot_of c.shape set way) false) (set_of c.shape (p / 16) == set && tag_of c.shape (p / 16) == (slots c set way).tag)
    (in_ram image p) refl (put_back image set way p memory c is long sized h l))

length_by : (put memory : List ℕ) (b : Bool) → length put ≡ length memory → length (cond b put memory) ≡ length memory
length_by put memory true e = e
length_by put memory false e = refl

pub length-written_back : (image : LoadedImage) (set way : ℕ) (memory : List ℕ) (c : Contents) → IsImage image → length memory ≡ length image.ram
    → IsSized c → set < c.shape.sets → way < c.shape.ways → length (written_back image set way c memory) ≡ length memory
unfolding written_back
length-written_back image set way memory c is long sized h l =
    let below : slot_of c.shape set way < slot_count c.shape = slot_below c.shape set way sized.shape h l in
    length_by _ memory _ (length-put_line image _ _ memory is long
    (length-range c.bytes (16 * slot_of c.shape set way) (16 * slot_of c.shape set way + 16) (omega arith) (omega (arith, sized.bytes)) ∙ omega arith))

-- main memory after a refill of a line
pub ram-refilled : (image : LoadedImage) (line : ℕ) (memory : List ℕ) (c : Contents) → IsImage image → length memory ≡ length image.ram → IsSized c
    → set_of c.shape line < c.shape.sets → way_for c line < c.shape.ways
    → ram_byte image (memory_refilled image line c memory) ≡ slot_written_back image c.shape (set_of c.shape line)
    (slots c (set_of c.shape line) (way_for c line)) (ram_byte image memory)
unfolding memory_refilled
ram-refilled image line memory c is long sized h l = fun_ext (λ p. ram-written_back image (set_of c.shape line) (way_for c line) p memory c is long sized h l)

pub length-refilled : (image : LoadedImage) (line : ℕ) (memory : List ℕ) (c : Contents) → IsImage image → length memory ≡ length image.ram → IsSized c
    → set_of c.shape line < c.shape.sets → way_for c line < c.shape.ways → length (memory_refilled image line c memory) ≡ length image.ram
unfolding memory_refilled
length-refilled image line memory c is long sized h l = length-written_back image (set_of c.shape line) (way_for c line) memory c is long sized h l ∙ long

-- the slots after it
pub slots-refilled : (image : LoadedImage) (line : ℕ) (memory : List ℕ) (c : Contents) → IsImage image → length memory ≡ length image.ram → IsSized c
    → set_of c.shape line < c.shape.sets → way_for c line < c.shape.ways
    → slots (refilled image line memory c) ≡ put_slot (set_of c.shape line) (way_for c line)
    (filled_slot c.shape (slot_written_back image c.shape (set_of c.shape line) (slots c (set_of c.shape line) (way_for c line)) (ram_byte image memory))
    line) (slots c)
unfolding refilled
slots-refilled image line memory c is long sized h l =
    slots-filled image line (way_for c line) (memory_refilled image line c memory) c is (length-refilled image line memory c is long sized h l) sized h l
    ∙ ap (λ (ram : ℕ → ℕ). put_slot (set_of c.shape line) (way_for c line) (filled_slot c.shape ram line) (slots c))
    (ram-refilled image line memory c is long sized h l)
