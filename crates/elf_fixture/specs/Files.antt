-- The bytes of the files that tests load.
use Rattle.std.specs.Prelude.{ℕ, ◌+◌, ◌*◌, ◌%◌, ◌^◌, List, [], ◌∷◌, ◌++◌, length}
use Rattle.std.specs.Int.{w32, to_le_bytes}
use Rattle.std.specs.List.{flat_map}
use Rattle.elf_fixture.specs.declared.Header.{Header}
use Rattle.elf_fixture.specs.declared.Segment.{Segment}
use Rattle.elf_fixture.specs.declared.TheConstants.{ENTRY, FILE_HEADER, PROGRAM_HEADER}

-- words, each from its lowest byte
abbrev pub bytes_of_words : List ℕ → List ℕ
bytes_of_words words = flat_map (to_le_bytes w32) words

-- The file header: 7F 45 4C 46; 32 bits, little-endian, version 1; executable, RISC-V; the entry; where the program headers
-- stand; the sizes of both headers, and how many program headers there are.
abbrev pub file_header_words : ℕ → List ℕ
file_header_words count =
    0x464C457F ∷ 0x00010101 ∷ 0 ∷ 0 ∷ 0x00F30002 ∷ 1 ∷ ENTRY ∷ FILE_HEADER ∷ 0 ∷ 0 ∷ 0x00200034 ∷ count ∷ 0 ∷ []

-- a program header: type, offset, address twice, size in the file and in memory, flags, alignment
abbrev pub header_words : Header → List ℕ
header_words h = h.kind ∷ h.offset ∷ h.address ∷ h.address ∷ h.file_size ∷ h.memory_size ∷ h.flags ∷ 4 ∷ []

abbrev pub headers_bytes : List Header → List ℕ
headers_bytes headers = flat_map (λ h. bytes_of_words (header_words h)) headers

-- the file header, the program headers, and bytes behind them
abbrev pub file_of : List Header → List ℕ → List ℕ
file_of headers bytes = bytes_of_words (file_header_words (length headers % 65536)) ++ headers_bytes headers ++ bytes

-- the header of one executable segment at the entry, whose bytes stand behind it
abbrev pub flat_header : ℕ → Header
flat_header size = record {
  kind = 1;
  offset = FILE_HEADER + PROGRAM_HEADER;
  address = ENTRY;
  file_size = size;
  memory_size = size;
  flags = 5;
}

-- the file of words as one executable segment
abbrev pub flat_file : List ℕ → List ℕ
flat_file words = file_of (flat_header (4 * (length words % 2 ^ 30)) ∷ []) (bytes_of_words words)

-- the header of a segment whose bytes begin at this offset of the file
abbrev pub segment_header : ℕ → Segment → Header
segment_header offset s = record {
  kind = s.kind;
  offset = offset % 2 ^ 32;
  address = s.address;
  file_size = length s.bytes.now % 2 ^ 32;
  memory_size = length s.bytes.now % 2 ^ 32;
  flags = s.flags;
}

-- the headers of segments whose bytes stand one behind the other, from this offset on
abbrev pub segment_headers : ℕ → List Segment → List Header
segment_headers offset [] = []
segment_headers offset (s ∷ rest) = segment_header offset s ∷ segment_headers (offset + length s.bytes.now) rest

-- the bytes of segments, one behind the other
abbrev pub segment_bytes : List Segment → List ℕ
segment_bytes segments = flat_map (λ s. s.bytes.now) segments

-- the file of segments, whose bytes stand behind the headers
abbrev pub segmented_file : List Segment → List ℕ
segmented_file segments = file_of (segment_headers (52 + 32 * length segments) segments) (segment_bytes segments)
