-- The ELF32 file of a program for RISC-V, byte by byte (System V ABI, chapter 4, and the RISC-V ELF psABI). It has a text part, which is
-- code, and maybe a data part, and is loaded as it stands.
use Rattle.std.specs.Prelude.{ℕ, ◌+◌, ◌*◌, ◌==◌, if◌then◌else◌, List, [], ◌∷◌, ◌++◌, length}
use Rattle.std.specs.List.{flat_map}
use Rattle.byteorder.specs.Endian.{little_bytes}
use Rattle.elf_write.specs.declared.headers.TheConstants.{IDENTIFICATION, EXECUTABLE, RISC_V, VERSION, FILE_HEADER, PROGRAM_HEADER}
use Rattle.elf_write.specs.declared.headers.TheConstants.{LOADABLE, READ_EXECUTE, READ_WRITE, ALIGNMENT}
use Rattle.elf_write.specs.declared.layout.TheConstants.{TEXT_BASE, DATA_BASE}

-- fields of 16 and of 32 bits, lowest byte first
abbrev pub halves : List ℕ → List ℕ
halves values = flat_map (little_bytes 2) values

abbrev pub words : List ℕ → List ℕ
words values = flat_map (little_bytes 4) values

-- type, machine, version, entry, where the program headers and the section headers stand, flags, the sizes of this header and of a program
-- header, the number of program headers, and the size, number and names of section headers, of which there are none
unfoldable pub file_header : ℕ → ℕ → List ℕ
file_header entry headers =
    IDENTIFICATION
    ++ halves (EXECUTABLE ∷ RISC_V ∷ [])
    ++ words (VERSION ∷ entry ∷ FILE_HEADER ∷ 0 ∷ 0 ∷ [])
    ++ halves (FILE_HEADER ∷ PROGRAM_HEADER ∷ headers ∷ 0 ∷ 0 ∷ 0 ∷ [])

-- type, offset in the file, address (virtual and physical), size (in the file and in memory), flags, alignment
unfoldable pub program_header : ℕ → ℕ → ℕ → ℕ → List ℕ
program_header offset address size flags =
    words (LOADABLE ∷ offset ∷ address ∷ address ∷ size ∷ size ∷ flags ∷ ALIGNMENT ∷ [])

-- the headers of a program with a text part alone, and of one with both parts
unfoldable pub text_headers : ℕ → ℕ → List ℕ
text_headers entry text_size = file_header entry 1 ++ program_header (FILE_HEADER + PROGRAM_HEADER) TEXT_BASE text_size READ_EXECUTE

unfoldable pub both_headers : ℕ → ℕ → ℕ → List ℕ
both_headers entry text_size data_size =
    let first = FILE_HEADER + 2 * PROGRAM_HEADER in
    file_header entry 2
    ++ program_header first TEXT_BASE text_size READ_EXECUTE
    ++ program_header (first + text_size) DATA_BASE data_size READ_WRITE

-- the headers of a program whose parts have so many bytes; an empty data part has none
unfoldable pub headers : ℕ → ℕ → ℕ → List ℕ
headers entry text_size data_size = if data_size == 0 then text_headers entry text_size else both_headers entry text_size data_size

-- the file of a program with this entry (byte address), text part and data part
unfoldable pub file : ℕ → List ℕ → List ℕ → List ℕ
file entry text_part data_part = headers entry (length text_part) (length data_part) ++ text_part ++ data_part
