-- What the loader makes of a written file.
use Rattle.std.specs.Prelude.{◌≡◌, ℕ, ◌+◌, ◌%◌, ◌==◌, ◌&&◌, Bool, true, false, nat_le, if◌then◌else◌, List, [], ◌∷◌, length, Some, None}
use Rattle.elf_load.specs.Headers.{LoadSegment, entry_of, segments_of}
use Rattle.elf_load.specs.Layout.{IsRamSize}
use Rattle.elf_load.specs.Refusal.{first_refusal}
use Rattle.elf_write.specs.File.{file}
use Rattle.elf_write.specs.declared.layout.TheConstants.{TEXT_BASE, DATA_BASE}

abbrev pub text_segment : List ℕ → LoadSegment
text_segment text_part = record { vaddr = TEXT_BASE; bytes = text_part; memsz = length text_part; exec = true }

abbrev pub data_segment : List ℕ → LoadSegment
data_segment data_part = record { vaddr = DATA_BASE; bytes = data_part; memsz = length data_part; exec = false }

-- the segments of a program: an empty data part is none
unfoldable pub program_segments : List ℕ → List ℕ → List LoadSegment
program_segments text_part data_part =
    if length data_part == 0 then text_segment text_part ∷ [] else text_segment text_part ∷ data_segment data_part ∷ []

-- whether a whole word of the text part stands at the entry
unfoldable pub begins_in_text : ℕ → ℕ → Bool
begins_in_text entry text_size = (entry % 4 == 0) && nat_le TEXT_BASE entry && nat_le (entry + 4) (TEXT_BASE + text_size)

-- The file means the program. In a RAM of 1 to 16 MiB it is refused for its entry alone, where no whole word of the text part stands there.
pub record IsLoaded (begin : ℕ) (text_part data_part : List ℕ) : Type 0 where
  pub entry : entry_of (file begin text_part data_part) ≡ begin
  pub segments : segments_of (file begin text_part data_part) ≡ program_segments text_part data_part
  pub refusal : (size : ℕ) → IsRamSize size
      → first_refusal (file begin text_part data_part) size ≡ (if begins_in_text begin (length text_part) then None else Some 12)
