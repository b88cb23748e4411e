-- What the loader reads in the headers of a written file.
use Rattle.std.proofs.Common.{◌≡◌, ℕ, ◌+◌, ◌^◌, ◌<◌, ◌≤◌, false, List, [], ◌∷◌, ◌++◌, ◌∙◌, ap, length, None, refl, arith, length-append, ltb}
use Rattle.std.proofs.lemmas.Bool.Decides.{nat_tests}
use Rattle.byteorder.specs.Endian.{little_bytes, little_number}
use Rattle.byteorder.specs.Numbers.{little_number-reads_back}
use Rattle.elf_load.specs.declared.headers.ProgramHeader.{ProgramHeader}
use Rattle.elf_load.specs.Headers.{half_at, word_at, entry_of, headers_offset, headers_count, program_header, first_headers, program_headers}
use Rattle.elf_load.specs.Refusal.{file_refusal, is_short, lacks_magic, has_other_class, has_other_type, has_other_machine}
use Rattle.elf_load.specs.Refusal.{is_compressed, has_other_sizes, lacks_headers}
use Rattle.elf_write.specs.declared.layout.TheConstants.{TEXT_BASE, DATA_BASE}
use Rattle.elf_write.specs.File.{file_header, program_header as written_header, text_headers, both_headers}

not_less : (m n : ℕ) → n ≤ m → ltb m n ≡ false
not_less m n h = grind (arith, nat_tests)

-- A program with a text part alone

pub text_length : (begin size : ℕ) (rest : List ℕ) → length (text_headers begin size ++ rest) ≡ 84 + length rest
unfolding text_headers file_header written_header
text_length begin size rest = length-append (text_headers begin size) rest

pub text_entry : (begin size : ℕ) (rest : List ℕ) → begin < 2 ^ 32 → entry_of (text_headers begin size ++ rest) ≡ begin
unfolding entry_of word_at text_headers file_header
text_entry begin size rest h = little_number-reads_back 4 begin [] h

text_short : (begin size : ℕ) (rest : List ℕ) → is_short (text_headers begin size ++ rest) ≡ false
unfolding is_short
text_short begin size rest = let long = text_length begin size rest in not_less _ 52 (omega (arith, long))

text_whole : (begin size : ℕ) (rest : List ℕ) → lacks_headers (text_headers begin size ++ rest) ≡ false
unfolding lacks_headers headers_offset headers_count half_at word_at text_headers file_header written_header
text_whole begin size rest = let long = text_length begin size rest in not_less (length (text_headers begin size ++ rest)) 84 (omega (arith, long))

pub text_accepted : (begin size : ℕ) (rest : List ℕ) → file_refusal (text_headers begin size ++ rest) ≡ None
unfolding file_refusal lacks_magic has_other_class has_other_type has_other_machine is_compressed
    has_other_sizes half_at word_at text_headers file_header written_header
text_accepted begin size rest = rw (text_short begin size rest, text_whole begin size rest) refl

pub text_program_headers : (begin size : ℕ) (rest : List ℕ) → size < 2 ^ 32 → program_headers (text_headers begin size ++ rest)
    ≡ record { kind = 1; offset = 84; vaddr = TEXT_BASE; filesz = size; memsz = size; flags = 5 } ∷ []
unfolding program_headers first_headers program_header headers_offset headers_count half_at word_at text_headers file_header written_header
text_program_headers begin size rest h =
    let read = little_number-reads_back 4 size [] h in
    ap (λ (n : ℕ). let one : ProgramHeader = record { kind = 1; offset = 84; vaddr = TEXT_BASE; filesz = n; memsz = n; flags = 5 } in one ∷ []) read

-- A program with both parts

pub both_length : (begin n m : ℕ) (rest : List ℕ) → length (both_headers begin n m ++ rest) ≡ 116 + length rest
unfolding both_headers file_header written_header
both_length begin n m rest = length-append (both_headers begin n m) rest

pub both_entry : (begin n m : ℕ) (rest : List ℕ) → begin < 2 ^ 32 → entry_of (both_headers begin n m ++ rest) ≡ begin
unfolding entry_of word_at both_headers file_header
both_entry begin n m rest h = little_number-reads_back 4 begin [] h

both_short : (begin n m : ℕ) (rest : List ℕ) → is_short (both_headers begin n m ++ rest) ≡ false
unfolding is_short
both_short begin n m rest = let long = both_length begin n m rest in not_less _ 52 (omega (arith, long))

both_whole : (begin n m : ℕ) (rest : List ℕ) → lacks_headers (both_headers begin n m ++ rest) ≡ false
unfolding lacks_headers headers_offset headers_count half_at word_at both_headers file_header written_header
both_whole begin n m rest = let long = both_length begin n m rest in not_less (length (both_headers begin n m ++ rest)) 116 (omega (arith, long))

pub both_accepted : (begin n m : ℕ) (rest : List ℕ) → file_refusal (both_headers begin n m ++ rest) ≡ None
unfolding file_refusal lacks_magic has_other_class has_other_type has_other_machine is_compressed
    has_other_sizes half_at word_at both_headers file_header written_header
both_accepted begin n m rest = rw (both_short begin n m rest, both_whole begin n m rest) refl

pub both_program_headers : (begin n m : ℕ) (rest : List ℕ) → n < 2 ^ 31 → m < 2 ^ 32 → program_headers (both_headers begin n m ++ rest)
    ≡ record { kind = 1; offset = 116; vaddr = TEXT_BASE; filesz = n; memsz = n; flags = 5 }
    ∷ record { kind = 1; offset = 116 + n; vaddr = DATA_BASE; filesz = m; memsz = m; flags = 6 } ∷ []
unfolding program_headers first_headers program_header headers_offset headers_count half_at word_at both_headers file_header written_header
both_program_headers begin n m rest h g =
    let small : n < 2 ^ 32 = omega arith in
    let sum : 116 + n < 2 ^ 32 = omega arith in
    ap (λ (k : ℕ). both k (little_number 4 (little_bytes 4 (116 + n))) (little_number 4 (little_bytes 4 m))) (little_number-reads_back 4 n [] small)
    ∙ ap (λ (k : ℕ). both n k (little_number 4 (little_bytes 4 m))) (little_number-reads_back 4 (116 + n) [] sum)
    ∙ ap (λ (k : ℕ). both n (116 + n) k) (little_number-reads_back 4 m [] g)
  where
    both : ℕ → ℕ → ℕ → List ProgramHeader
    both n second m =
        record { kind = 1; offset = 116; vaddr = TEXT_BASE; filesz = n; memsz = n; flags = 5 }
        ∷ record { kind = 1; offset = second; vaddr = DATA_BASE; filesz = m; memsz = m; flags = 6 } ∷ []
