-- The segments of a written file, and that no program header is a reason to refuse it.
use Rattle.std.proofs.Common.{◌≡◌, ℕ, ◌+◌, ◌-◌, ◌%◌, ◌^◌, ◌<◌, ◌≤◌, true, false, List, [], ◌∷◌, ◌++◌, ◌∙◌, length, drop, None, refl, arith, length-append}
use Rattle.std.specs.Prelude.{◌==◌, slice_range}
use Rattle.std.proofs.Math.Seq.{drop-append_seam, take-append_seam, drop-append-add, take-length}
use Rattle.std.proofs.lemmas.Bool.Decides.{nat_tests}
use Rattle.elf_load.specs.declared.headers.ProgramHeader.{ProgramHeader}
use Rattle.elf_load.specs.Headers.{is_loadable, segment_of, segments_of}
use Rattle.elf_load.specs.Refusal.{headers_refusal, has_bad_range, is_interpreter}
use Rattle.elf_write.specs.File.{file, text_headers, both_headers, file_header, program_header}
use Rattle.elf_write.specs.Loading.{text_segment, data_segment}
use Rattle.elf_write.specs.declared.layout.TheConstants.{TEXT_BASE, DATA_BASE}
use Rattle.elf_write.proofs.HeaderFields.{text_length, text_program_headers, both_length, both_program_headers}

-- the loadable header of bytes that stand whole in the file
header : ℕ → ℕ → ℕ → ℕ → ProgramHeader
header offset address size flags = record { kind = 1; offset = offset; vaddr = address; filesz = size; memsz = size; flags = flags }

loadable : (offset address size flags : ℕ) → 0 < size → is_loadable (header offset address size flags) ≡ true
unfolding is_loadable header
loadable offset address size flags h = grind (arith, nat_tests)

in_range : (file : List ℕ) (offset address size flags : ℕ) → offset + size ≤ length file → has_bad_range file (header offset address size flags) ≡ false
unfolding has_bad_range header
in_range file offset address size flags h = grind (arith, nat_tests)

no_interpreter : (offset address size flags : ℕ) → is_interpreter (header offset address size flags) ≡ false
unfolding is_interpreter header
no_interpreter offset address size flags = refl

segment : (file : List ℕ) (offset address size flags : ℕ) (bytes : List ℕ) → slice_range file offset (offset + size) ≡ bytes
    → segment_of file (header offset address size flags) ≡ record { vaddr = address; bytes = bytes; memsz = size; exec = flags % 2 == 1 }
unfolding segment_of header
segment file offset address size flags bytes h = rw h refl

-- A text part alone

text_bytes : (begin : ℕ) (text_part : List ℕ) → let n : ℕ = length text_part in slice_range (text_headers begin n ++ text_part) 84 (84 + n) ≡ text_part
unfolding text_headers file_header program_header
text_bytes begin text_part =
    let size : 84 + length text_part - 84 ≡ length text_part = omega arith in
    rw size (take-length text_part)

pub text_segments : (begin : ℕ) (text_part : List ℕ) → 0 < length text_part → length text_part < 2 ^ 32
    → segments_of (text_headers begin (length text_part) ++ text_part) ≡ text_segment text_part ∷ []
unfolding segments_of header
text_segments begin text_part some small =
    rw (
      text_program_headers begin (length text_part) text_part small,
      loadable 84 TEXT_BASE (length text_part) 5 some,
      segment (text_headers begin (length text_part) ++ text_part) 84 TEXT_BASE (length text_part) 5 text_part (text_bytes begin text_part),
    ) refl

pub text_headers_accepted : (begin : ℕ) (text_part : List ℕ) → length text_part < 2 ^ 32
    → headers_refusal (text_headers begin (length text_part) ++ text_part) ≡ None
unfolding headers_refusal header is_interpreter
text_headers_accepted begin text_part small =
    let long = text_length begin (length text_part) text_part in
    let whole : 84 + length text_part ≤ length (text_headers begin (length text_part) ++ text_part) = omega (arith, long) in
    rw (
      text_program_headers begin (length text_part) text_part small,
      in_range (text_headers begin (length text_part) ++ text_part) 84 TEXT_BASE (length text_part) 5 whole,
    ) refl

-- Both parts

first_bytes : (begin m : ℕ) (text_part data_part : List ℕ) → let n : ℕ = length text_part in
    slice_range (both_headers begin n m ++ (text_part ++ data_part)) 116 (116 + n) ≡ text_part
unfolding both_headers file_header program_header
first_bytes begin m text_part data_part =
    let size : 116 + length text_part - 116 ≡ length text_part = omega arith in
    rw size (take-append_seam text_part data_part)

second_bytes : (begin m : ℕ) (text_part data_part : List ℕ) → m ≡ length data_part → let n : ℕ = length text_part in
    slice_range (both_headers begin n m ++ (text_part ++ data_part)) (116 + n) (116 + n + m) ≡ data_part
unfolding both_headers file_header program_header
second_bytes begin m text_part data_part e =
    let size : 116 + length text_part + m - (116 + length text_part) ≡ length data_part = omega arith in
    let behind : drop (116 + length text_part) (both_headers begin (length text_part) m ++ (text_part ++ data_part)) ≡ data_part =
    drop-append-add (both_headers begin (length text_part) m) (text_part ++ data_part) (length text_part) ∙ drop-append_seam text_part data_part in
    rw (size, behind) (take-length data_part)

pub both_segments : (begin : ℕ) (text_part data_part : List ℕ) → 0 < length text_part → 0 < length data_part → length text_part < 2 ^ 31
    → length data_part < 2 ^ 32
    → segments_of (both_headers begin (length text_part) (length data_part) ++ (text_part ++ data_part)) ≡ text_segment text_part ∷ data_segment data_part ∷ []
unfolding segments_of header
both_segments begin text_part data_part some more small less =
    let n : ℕ = length text_part in
    let m : ℕ = length data_part in
    let file : List ℕ = both_headers begin n m ++ (text_part ++ data_part) in
    rw (
      both_program_headers begin n m (text_part ++ data_part) small less,
      loadable 116 TEXT_BASE n 5 some,
      loadable (116 + n) DATA_BASE m 6 more,
      segment file 116 TEXT_BASE n 5 text_part (first_bytes begin m text_part data_part),
      segment file (116 + n) DATA_BASE m 6 data_part (second_bytes begin m text_part data_part refl),
    ) refl

pub both_headers_accepted : (begin : ℕ) (text_part data_part : List ℕ) → length text_part < 2 ^ 31 → length data_part < 2 ^ 32
    → headers_refusal (both_headers begin (length text_part) (length data_part) ++ (text_part ++ data_part)) ≡ None
unfolding headers_refusal header is_interpreter
both_headers_accepted begin text_part data_part small less =
    let n : ℕ = length text_part in
    let m : ℕ = length data_part in
    let file : List ℕ = both_headers begin n m ++ (text_part ++ data_part) in
    let long = both_length begin n m (text_part ++ data_part) in
    let parts = length-append text_part data_part in
    let first : 116 + n ≤ length file = omega (arith, long, parts) in
    let second : 116 + n + m ≤ length file = omega (arith, long, parts) in
    rw (
      both_program_headers begin n m (text_part ++ data_part) small less,
      in_range file 116 TEXT_BASE n 5 first,
      in_range file (116 + n) DATA_BASE m 6 second,
    ) refl
