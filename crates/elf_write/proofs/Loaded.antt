-- A written file means its program to the loader.
use Rattle.std.proofs.Common.{◌≡◌, ℕ, ◌^◌, ◌<◌, ◌≤◌, false, List, [], ◌∷◌, ◌++◌, length, eqb, arith, append_assoc}
use Rattle.std.proofs.lemmas.List.{append-nil}
use Rattle.std.proofs.lemmas.Bool.Decides.{nat_tests}
use Rattle.elf_load.specs.Headers.{entry_of}
use Rattle.elf_load.specs.Refusal.{first_refusal}
use Rattle.elf_write.specs.File.{file, headers, text_headers, both_headers}
use Rattle.elf_write.specs.Loading.{IsLoaded, program_segments}
use Rattle.elf_write.proofs.HeaderFields.{text_accepted, text_entry, both_accepted, both_entry}
use Rattle.elf_write.proofs.Segments.{text_segments, text_headers_accepted, both_segments, both_headers_accepted}
use Rattle.elf_write.proofs.Accepting.{text_refusal, both_refusal}

text_file : (begin : ℕ) (text_part : List ℕ) → file begin text_part [] ≡ text_headers begin (length text_part) ++ text_part
unfolding file headers
text_file begin text_part = append-nil (text_headers begin (length text_part) ++ text_part)

some : (n : ℕ) (b : ℕ) (bs : List ℕ) → eqb (length (b ∷ bs)) 0 ≡ false
some n b bs = grind (arith, nat_tests)

both_file : (begin : ℕ) (text_part : List ℕ) (b : ℕ) (bs : List ℕ)
    → file begin text_part (b ∷ bs) ≡ both_headers begin (length text_part) (length (b ∷ bs)) ++ (text_part ++ (b ∷ bs))
unfolding file headers
both_file begin text_part b bs = rw (some 0 b bs) (append_assoc (both_headers begin (length text_part) (length (b ∷ bs))) text_part (b ∷ bs))

pub loaded : (begin : ℕ) (text_part data_part : List ℕ) → begin < 2 ^ 32 → 0 < length text_part → length text_part ≤ 458752
    → length data_part ≤ 524288 → IsLoaded begin text_part data_part
unfolding program_segments first_refusal
loaded begin text_part [] h more small less =
    let written = text_file begin text_part in
    let read : entry_of (text_headers begin (length text_part) ++ text_part) ≡ begin = text_entry begin (length text_part) text_part h in
    let found = text_segments begin text_part more (omega arith) in
    record {
      entry = rw written read;
      segments = rw written found;
      refusal = λ size ram. rw (written, text_accepted begin (length text_part) text_part, text_headers_accepted begin text_part (omega arith), found, read)
          (text_refusal begin size text_part small ram.least ram.most);
    }
loaded begin text_part (b ∷ bs) h more small less =
    let written = both_file begin text_part b bs in
    let read : entry_of (both_headers begin (length text_part) (length (b ∷ bs)) ++ (text_part ++ (b ∷ bs))) ≡ begin =
    both_entry begin (length text_part) (length (b ∷ bs)) (text_part ++ (b ∷ bs)) h in
    let found = both_segments begin text_part (b ∷ bs) more (omega arith) (omega arith) (omega arith) in
    record {
      entry = rw written read;
      segments = rw (written, some 0 b bs) found;
      refusal = λ size ram. rw (
        written,
        both_accepted begin (length text_part) (length (b ∷ bs)) (text_part ++ (b ∷ bs)),
        both_headers_accepted begin text_part (b ∷ bs) (omega arith) (omega arith),
        found,
        read,
      )
          (both_refusal begin size text_part (b ∷ bs) small less ram.least ram.most);
    }
