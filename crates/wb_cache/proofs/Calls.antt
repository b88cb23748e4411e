-- The slots and main memory after each call.
use Rattle.std.proofs.Common.{◌≡◌, ℕ, ◌<◌, List, length, ap, refl, sym, ◌∙◌}
use Rattle.std.specs.Prelude.{Option, Some, None}
use Rattle.elf_load.specs.Image.{LoadedImage, IsImage, ram_byte}
use Rattle.wb_cache.specs.Access.{read, written, found, on_hit, touched}
use Rattle.wb_cache.specs.Changes.{put_slot, written_slot, filled_slot, slot_written_back}
use Rattle.wb_cache.specs.Contents.{Contents, IsSized, slots}
use Rattle.wb_cache.specs.Lookup.{way_of, set_of}
use Rattle.wb_cache.specs.Refill.{refilled, memory_refilled, way_for}
use Rattle.wb_cache.proofs.Hits.{written-hit}
use Rattle.wb_cache.proofs.Sizes.{set_below}
use Rattle.wb_cache.proofs.Victims.{victim-below, way_of-below}
use Rattle.wb_cache.proofs.Written.{slots-touched, slots-put}
use Rattle.wb_cache.proofs.WrittenBack.{ram-refilled, slots-refilled, length-refilled}

read_by : (c : Contents) (line : ℕ) (way : Option ℕ) → slots (on_hit way (λ w. touched (set_of c.shape line) w c) c) ≡ slots c
read_by c line (Some way) = slots-touched c (set_of c.shape line) way
read_by c line None = refl

-- a read changes no slot
pub slots-after_read : (c : Contents) (line : ℕ) → slots (read line c) ≡ slots c
unfolding read
slots-after_read c line = read_by c line (found c line)

-- a write changes the slot where the line is found
pub slots-after_write : (c : Contents) (line word mask value way : ℕ) → IsSized c → word < 4 → way_of c.shape (slots c) line ≡ Some way
    → slots (written line word mask value c) ≡ put_slot (set_of c.shape line) way (written_slot word mask value (slots c (set_of c.shape line) way)) (slots c)
slots-after_write c line word mask value way sized w hit =
    ap slots (written-hit c line word mask value way (sym hit))
    ∙ slots-put c (set_of c.shape line) way word mask value sized (set_below c.shape line sized.shape) (way_of-below c.shape (slots c) line way hit) w

-- a refill changes the victim's slot, and main memory where that was valid and dirty
pub slots-after_refill : (image : LoadedImage) (line : ℕ) (memory : List ℕ) (c : Contents) → IsImage image → length memory ≡ length image.ram → IsSized c
    → slots (refilled image line memory c) ≡ put_slot (set_of c.shape line) (way_for c line)
    (filled_slot c.shape (slot_written_back image c.shape (set_of c.shape line) (slots c (set_of c.shape line) (way_for c line)) (ram_byte image memory))
    line) (slots c)
slots-after_refill image line memory c is long sized =
    slots-refilled image line memory c is long sized (set_below c.shape line sized.shape)
    (victim-below c.shape (slots c) c.nodes (set_of c.shape line) sized.shape)

pub ram-after_refill : (image : LoadedImage) (line : ℕ) (memory : List ℕ) (c : Contents) → IsImage image → length memory ≡ length image.ram → IsSized c
    → ram_byte image (memory_refilled image line c memory) ≡ slot_written_back image c.shape (set_of c.shape line)
    (slots c (set_of c.shape line) (way_for c line)) (ram_byte image memory)
ram-after_refill image line memory c is long sized =
    ram-refilled image line memory c is long sized (set_below c.shape line sized.shape)
    (victim-below c.shape (slots c) c.nodes (set_of c.shape line) sized.shape)

pub length-after_refill : (image : LoadedImage) (line : ℕ) (memory : List ℕ) (c : Contents) → IsImage image → length memory ≡ length image.ram → IsSized c
    → length (memory_refilled image line c memory) ≡ length image.ram
length-after_refill image line memory c is long sized =
    length-refilled image line memory c is long sized (set_below c.shape line sized.shape)
    (victim-below c.shape (slots c) c.nodes (set_of c.shape line) sized.shape)
