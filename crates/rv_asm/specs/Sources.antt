-- The file of a source, and its fault.
use Rattle.std.specs.Prelude.{◌≡◌, ℕ, ◌+◌, ◌==◌, ◌||◌, Bool, nat_lt, if◌then◌else◌, List, length}
use Rattle.std.specs.Prelude.{Option, Some, None, option_map, Result, Ok, Err, Vec, ⊤}
use Rattle.std.specs.List.{AllByRecursion, flat_map}
use Rattle.std.specs.Option.{option_or}
use Rattle.std.specs.declared.alloc.Global.{Global}
use Rattle.elf_load.specs.Layout.{IsRamSize}
use Rattle.elf_load.specs.Refusal.{first_refusal}
use Rattle.elf_write.specs.Code.{IsCoded, op_bytes}
use Rattle.elf_write.specs.File.{file}
use Rattle.elf_write.specs.Loading.{IsLoaded}
use Rattle.elf_write.specs.declared.layout.TheConstants.{DATA_ROOM, TEXT_BASE, TEXT_ROOM}
use Rattle.rv_table.specs.declared.op.Op.{Op}
use Rattle.rv_asm.specs.Faults.{first_fault}
use Rattle.rv_asm.specs.Layout.{end_of, place_of, start}
use Rattle.rv_asm.specs.Lines.{lines}
use Rattle.rv_asm.specs.Program.{bytes_in, entry_in, ops_in}
use Rattle.rv_asm.specs.declared.error.AsmError.{AsmError}
use Rattle.rv_asm.specs.declared.error.AsmError.TheVariants.{Bad, OutOfMemory}
use Rattle.rv_asm.specs.declared.fault.Fault.{Fault}
use Rattle.rv_asm.specs.declared.fault.Fault.TheVariants.{BadByte, UnknownWord, BadForm, OutOfRange, DefinedTwice, Undefined, BadSize}
use Rattle.rv_asm.specs.declared.layout.Cursor.{Cursor}
use Rattle.rv_asm.specs.declared.layout.TheConstants.{SOURCE_ROOM}

-- the instructions of a source, the bytes of its parts, and the byte address of the first instruction
unfoldable pub program : List ℕ → List Op
program source = ops_in (place_of source) start (lines source)

unfoldable pub text_part : List ℕ → List ℕ
text_part source = flat_map op_bytes (program source)

unfoldable pub data_part : List ℕ → List ℕ
data_part source = bytes_in start (lines source)

unfoldable pub entry : List ℕ → ℕ
entry source = entry_in (place_of source)

-- the file of a source
unfoldable pub assembled : List ℕ → List ℕ
assembled source = file (entry source) (text_part source) (data_part source)

-- an empty text part, or a part that there is no room for
abbrev pub has_bad_size : Cursor → Bool
has_bad_size end = end.text_size == 0 || nat_lt TEXT_ROOM end.text_size || nat_lt DATA_ROOM end.data_size

-- The fault of a source: that it is too long; else the first on the least line; else that a part has a bad size. Line 0 is the whole source.
unfoldable pub fault_in : List ℕ → Option (ℕ × Fault)
fault_in source =
    if nat_lt SOURCE_ROOM (length source) then Some (0, BadSize)
    else option_or (first_fault (place_of source) start 1 (lines source))
    (if has_bad_size (end_of start (lines source)) then Some (0, BadSize) else None)

-- the number that is printed for a fault
abbrev pub number_of : Fault → ℕ
number_of BadByte = 1
number_of UnknownWord = 2
number_of BadForm = 3
number_of OutOfRange = 4
number_of DefinedTwice = 5
number_of Undefined = 6
number_of BadSize = 7

-- the line and the number of a fault
abbrev pub numbered : ℕ × Fault → ℕ × ℕ
numbered fault = (fault.0, number_of fault.1)

-- What holds of a source without a fault. What is written for an instruction decodes to it. The loader takes the file as this program, but for an
-- entry at the end of the text part.
pub record IsProgram (source : List ℕ) : Type 0 where
  pub decodes : AllByRecursion IsCoded (program source)
  pub loads : IsLoaded (entry source) (text_part source) (data_part source)
  pub refusal : (ram : ℕ) → IsRamSize ram
      → first_refusal (assembled source) ram ≡ (if entry source == TEXT_BASE + length (text_part source) then Some 12 else None)

-- The file of the source, where it has no fault; or the fault's line and number; or `OutOfMemory`.
abbrev pub Assembles : List ℕ → Result (Vec ℕ Global) AsmError → Type 0
Assembles source (Ok file) = (fault_in source ≡ None) × (file.items ≡ assembled source) × IsProgram source
Assembles source (Err (Bad line cause)) = option_map numbered (fault_in source) ≡ Some (line, cause)
Assembles source (Err OutOfMemory) = ⊤
