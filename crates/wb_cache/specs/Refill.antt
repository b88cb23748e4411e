-- A refill: the victim of the line's set goes back to main memory where it is valid and dirty, and the line is read in its
-- place. RAM begins and ends at multiples of 65,536, so the 16 bytes of a line are all in RAM or all outside.
use Rattle.std.specs.Prelude.{ℕ, ◌+◌, ◌-◌, ◌*◌, ◌&&◌, true, false, cond, List, replicate, slice_index, slice_index_or, slice_range, slice_set}
use Rattle.std.specs.List.{replace_range}
use Rattle.elf_load.specs.Image.{LoadedImage, in_ram}
use Rattle.wb_cache.specs.Contents.{Contents, slot_of, slots}
use Rattle.wb_cache.specs.Lookup.{set_of, tag_of, line_of}
use Rattle.wb_cache.specs.Replacement.{victim}
use Rattle.wb_cache.specs.Access.{touched}

-- the place in main memory of the first byte of a line
abbrev pub place_of : LoadedImage → ℕ → ℕ
place_of image line = 16 * line - image.base

-- the 16 bytes of a line in main memory, 0 outside RAM
unfoldable pub line_bytes : LoadedImage → ℕ → List ℕ → List ℕ
line_bytes image line memory =
    cond (in_ram image (16 * line)) (slice_range memory (place_of image line) (place_of image line + 16)) (replicate 16 0)

-- main memory with the 16 bytes of a line put there, which are dropped outside RAM
unfoldable pub put_line : LoadedImage → ℕ → List ℕ → List ℕ → List ℕ
put_line image line bytes memory =
    cond (in_ram image (16 * line)) (replace_range memory (place_of image line) (place_of image line + 16) bytes) memory

-- main memory after the write-back of a slot
unfoldable pub written_back : LoadedImage → ℕ → ℕ → Contents → List ℕ → List ℕ
written_back image set way c memory =
    cond (slice_index_or c.valid (slot_of c.shape set way) false && slice_index_or c.dirty (slot_of c.shape set way) false)
    (put_line image (line_of c.shape set (slice_index c.tags (slot_of c.shape set way)))
    (slice_range c.bytes (16 * slot_of c.shape set way) (16 * slot_of c.shape set way + 16)) memory)
    memory

-- the contents once a line was read from main memory into a way of its set: valid, clean and used
unfoldable pub filled : LoadedImage → ℕ → ℕ → List ℕ → Contents → Contents
filled image line way memory c =
    touched (set_of c.shape line) way (record c {
      bytes =
          replace_range c.bytes (16 * slot_of c.shape (set_of c.shape line) way) (16 * slot_of c.shape (set_of c.shape line) way + 16)
          (line_bytes image line memory);
      tags = slice_set c.tags (slot_of c.shape (set_of c.shape line) way) (tag_of c.shape line);
      valid = slice_set c.valid (slot_of c.shape (set_of c.shape line) way) true;
      dirty = slice_set c.dirty (slot_of c.shape (set_of c.shape line) way) false;
    })

-- the way that a line takes
abbrev pub way_for : Contents → ℕ → ℕ
way_for c line = victim c.shape (slots c) c.nodes (set_of c.shape line)

-- main memory and the contents after a refill
unfoldable pub memory_refilled : LoadedImage → ℕ → Contents → List ℕ → List ℕ
memory_refilled image line c memory = written_back image (set_of c.shape line) (way_for c line) c memory

unfoldable pub refilled : LoadedImage → ℕ → List ℕ → Contents → Contents
refilled image line memory c = filled image line (way_for c line) (memory_refilled image line c memory) c
