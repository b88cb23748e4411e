-- Why a file is no image: the first of twelve reasons, in the order of their numbers. Sums do not wrap.
use Rattle.std.specs.Prelude.{ℕ, ◌+◌, ◌*◌, ◌/◌, ◌%◌, ◌^◌, Bool, false, not, ◌==◌, ◌&&◌, ◌||◌, nat_le, nat_lt, if◌then◌else◌, List, [], ◌∷◌, length}
use Rattle.std.specs.Prelude.{slice_index, Option, Some, None, is_none}
use Rattle.std.specs.List.{list_any}
use Rattle.std.specs.Option.{option_or}
use Rattle.elf_load.specs.declared.sizes.TheConstants.{FILE_HEADER, PROGRAM_HEADER}
use Rattle.elf_load.specs.declared.headers.ProgramHeader.{ProgramHeader}
use Rattle.elf_load.specs.Headers.{half_at, word_at, headers_offset, headers_count, program_headers, LoadSegment, segments_of, entry_of}
use Rattle.elf_load.specs.Image.{fetch}
use Rattle.elf_load.specs.Meaning.{base_of, image_in}

-- The file header

-- 1: it is shorter than a file header
unfoldable pub is_short : List ℕ → Bool
is_short file = nat_lt (length file) FILE_HEADER

-- 2: it doesn't begin with 7F 45 4C 46
unfoldable pub lacks_magic : List ℕ → Bool
lacks_magic file =
    not ((slice_index file 0 == 0x7F) && (slice_index file 1 == 0x45) && (slice_index file 2 == 0x4C) && (slice_index file 3 == 0x46))

-- 3: it isn't of 32 bits (class 1), little-endian (data 1) and of version 1
unfoldable pub has_other_class : List ℕ → Bool
has_other_class file = not ((slice_index file 4 == 1) && (slice_index file 5 == 1) && (slice_index file 6 == 1))

-- 4: its type isn't 2, an executable file
unfoldable pub has_other_type : List ℕ → Bool
has_other_type file = not (half_at file 16 == 2)

-- 5: its machine isn't 243, RISC-V
unfoldable pub has_other_machine : List ℕ → Bool
has_other_machine file = not (half_at file 18 == 243)

-- 6: its flags have bit 0, compressed instructions
unfoldable pub is_compressed : List ℕ → Bool
is_compressed file = word_at file 36 % 2 == 1

-- 7: its headers have other sizes than 52 and 32 bytes
unfoldable pub has_other_sizes : List ℕ → Bool
has_other_sizes file = not ((half_at file 40 == FILE_HEADER) && (half_at file 42 == PROGRAM_HEADER))

-- 8: its program headers end past its last byte
unfoldable pub lacks_headers : List ℕ → Bool
lacks_headers file = nat_lt (length file) (headers_offset file + PROGRAM_HEADER * headers_count file)

unfoldable pub file_refusal : List ℕ → Option ℕ
file_refusal file =
    if is_short file then Some 1
    else if lacks_magic file then Some 2
    else if has_other_class file then Some 3
    else if has_other_type file then Some 4
    else if has_other_machine file then Some 5
    else if is_compressed file then Some 6
    else if has_other_sizes file then Some 7
    else if lacks_headers file then Some 8
    else None

-- The program headers

-- 9: one has type 3 (PT_INTERP): the file wants a dynamic linker
unfoldable pub is_interpreter : ProgramHeader → Bool
is_interpreter h = h.kind == 3

-- 10: one of type 1 (PT_LOAD) has bytes past the file's last, or more bytes in the file than in memory
unfoldable pub has_bad_range : List ℕ → ProgramHeader → Bool
has_bad_range file h = (h.kind == 1) && (nat_lt (length file) (h.offset + h.filesz) || nat_lt h.memsz h.filesz)

unfoldable pub headers_refusal : List ℕ → Option ℕ
headers_refusal file =
    if list_any is_interpreter (program_headers file) then Some 9
    else if list_any (has_bad_range file) (program_headers file) then Some 10
    else None

-- The layout of the segments in a RAM of so many bytes

-- whether two segments share an address
unfoldable pub overlaps : LoadSegment → LoadSegment → Bool
overlaps s t = nat_lt s.vaddr (t.vaddr + t.memsz) && nat_lt t.vaddr (s.vaddr + s.memsz)

-- whether two among these do
unfoldable pub some_overlap : List LoadSegment → Bool
some_overlap [] = false
some_overlap (s ∷ rest) = list_any (overlaps s) rest || some_overlap rest

unfoldable pub ends_above : ℕ → LoadSegment → Bool
ends_above limit s = nat_lt limit (s.vaddr + s.memsz)

-- 11: no segment is loaded; or RAM doesn't end below 2^32; or a segment ends past RAM; or two share an address
unfoldable pub has_bad_layout : List LoadSegment → ℕ → Bool
has_bad_layout segments size =
    (length segments == 0)
    || nat_le (2 ^ 32) (base_of segments + size)
    || list_any (ends_above (base_of segments + size)) segments
    || some_overlap segments

-- 12: the entry isn't a multiple of 4, or no word can be fetched there
unfoldable pub has_bad_entry : List LoadSegment → ℕ → ℕ → Bool
has_bad_entry segments entry size = not (entry % 4 == 0) || is_none (fetch (image_in segments entry size) (entry / 4))

unfoldable pub layout_refusal : List LoadSegment → ℕ → ℕ → Option ℕ
layout_refusal segments entry size =
    if has_bad_layout segments size then Some 11
    else if has_bad_entry segments entry size then Some 12
    else None

-- The first reason that stands, for a RAM of so many bytes; `None` where the file is an image.
unfoldable pub first_refusal : List ℕ → ℕ → Option ℕ
first_refusal file size =
    option_or (file_refusal file) (option_or (headers_refusal file) (layout_refusal (segments_of file) (entry_of file) size))
