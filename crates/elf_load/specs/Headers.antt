-- The fields of an ELF32 file, lowest byte first, where the ELF specification places them.
use Rattle.std.specs.Prelude.{ℕ, ◌+◌, ◌*◌, ◌%◌, Bool, ◌==◌, ◌&&◌, nat_lt, List, drop, map, slice_range}
use Rattle.std.specs.List.{filter, range_with_len}
use Rattle.byteorder.specs.Endian.{little_number}
use Rattle.elf_load.specs.declared.sizes.TheConstants.{PROGRAM_HEADER}
use Rattle.elf_load.specs.declared.headers.ProgramHeader.{ProgramHeader}

-- the 16-bit field at an offset in the file
unfoldable pub half_at : List ℕ → ℕ → ℕ
half_at file offset = little_number 2 (drop offset file)

-- the 32-bit field at an offset in the file
unfoldable pub word_at : List ℕ → ℕ → ℕ
word_at file offset = little_number 4 (drop offset file)

-- Of the file header: the byte address of the first instruction, where the program headers stand, and how many they are.
unfoldable pub entry_of : List ℕ → ℕ
entry_of file = word_at file 24

unfoldable pub headers_offset : List ℕ → ℕ
headers_offset file = word_at file 28

unfoldable pub headers_count : List ℕ → ℕ
headers_count file = half_at file 44

-- The program header at an offset. Its physical address and its alignment are passed over.
unfoldable pub program_header : List ℕ → ℕ → ProgramHeader
program_header file at = record {
  kind = word_at file at;
  offset = word_at file (at + 4);
  vaddr = word_at file (at + 8);
  filesz = word_at file (at + 16);
  memsz = word_at file (at + 20);
  flags = word_at file (at + 24);
}

-- the first n program headers, one behind the other
unfoldable pub first_headers : List ℕ → ℕ → List ProgramHeader
first_headers file n = map (λ k. program_header file (headers_offset file + PROGRAM_HEADER * k)) (range_with_len 0 n)

unfoldable pub program_headers : List ℕ → List ProgramHeader
program_headers file = first_headers file (headers_count file)

-- A segment: where it lies in memory, which bytes it begins with, how many it has, and whether they are instructions.
pub record LoadSegment : Type 0 where
  pub vaddr : ℕ  -- byte address of the first byte
  pub bytes : List ℕ  -- those that the file holds; the rest are 0
  pub memsz : ℕ  -- how many bytes there are in memory
  pub exec : Bool

-- a segment is loaded where its header has type 1 (PT_LOAD) and it has bytes in memory
unfoldable pub is_loadable : ProgramHeader → Bool
is_loadable h = (h.kind == 1) && nat_lt 0 h.memsz

-- the segment of a program header: its bytes are `filesz` of the file's from `offset` on; flag 1 (PF_X) says instructions
unfoldable pub segment_of : List ℕ → ProgramHeader → LoadSegment
segment_of file h = record {
  vaddr = h.vaddr;
  bytes = slice_range file h.offset (h.offset + h.filesz);
  memsz = h.memsz;
  exec = h.flags % 2 == 1;
}

-- the segments that are loaded, in the order of their headers
unfoldable pub segments_of : List ℕ → List LoadSegment
segments_of file = map (segment_of file) (filter is_loadable (program_headers file))
