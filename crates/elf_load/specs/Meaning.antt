-- The image that a file means, field by field, for a RAM of so many bytes.
use Rattle.std.specs.Prelude.{ℕ, ◌+◌, ◌-◌, ◌*◌, ◌/◌, ◌^◌, Bool, ◌&&◌, nat_le, nat_lt, if◌then◌else◌, List, [], ◌∷◌, map, min, slice_index}
use Rattle.std.specs.List.{list_any, range_with_len}
use Rattle.elf_load.specs.declared.sizes.TheConstants.{BLOCK}
use Rattle.elf_load.specs.Headers.{LoadSegment, segments_of, entry_of}
use Rattle.elf_load.specs.Image.{LoadedImage}

-- whether the segment holds the byte at this byte address
unfoldable pub holds : LoadSegment → ℕ → Bool
holds s a = nat_le s.vaddr a && nat_lt a (s.vaddr + s.memsz)

-- the byte at a byte address: that of the segment that holds it, 0 past the bytes that the file has of it, and 0 where none holds it
unfoldable pub byte_in : List LoadSegment → ℕ → ℕ
byte_in [] a = 0
byte_in (s ∷ rest) a = if holds s a then slice_index s.bytes (a - s.vaddr) else byte_in rest a

-- whether an executable segment holds the byte at a byte address
unfoldable pub code_in : List LoadSegment → ℕ → Bool
code_in segments a = list_any (λ s. s.exec && holds s a) segments

-- the lowest address of a segment, and 2^32, which is above each, where there is none
unfoldable pub lowest : List LoadSegment → ℕ
lowest [] = 2 ^ 32
lowest (s ∷ rest) = min s.vaddr (lowest rest)

-- RAM begins at the lowest loadable address, rounded down to a block
unfoldable pub base_of : List LoadSegment → ℕ
base_of segments = lowest segments / BLOCK * BLOCK

-- the image of these segments with this entry, in a RAM of so many bytes
unfoldable pub image_in : List LoadSegment → ℕ → ℕ → LoadedImage
image_in segments entry size = record {
  base = base_of segments;
  ram = map (byte_in segments) (range_with_len (base_of segments) size);
  code = map (code_in segments) (range_with_len (base_of segments) size);
  entry = entry;
}

-- the image that a file means
unfoldable pub image_of : List ℕ → ℕ → LoadedImage
image_of file size = image_in (segments_of file) (entry_of file) size
