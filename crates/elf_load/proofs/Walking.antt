-- A walk over the program headers.
use Rattle.std.proofs.Common.{◌≡◌, ℕ, ◌+◌, ◌*◌, Bool, true, false, cond, ◌||◌, List, [], ◌∷◌, ◌++◌, map, refl, ap, arith}
use Rattle.std.specs.List.{filter, list_any}
use Rattle.std.proofs.lemmas.List.{map-append}
use Rattle.std.proofs.lemmas.List.Folds.{list_any-append}
use Rattle.std.proofs.lemmas.List.Elements.{filter-append}
use Rattle.std.proofs.lemmas.List.FromFn.{map-range_with_len_more}
use Rattle.elf_load.specs.declared.headers.ProgramHeader.{ProgramHeader}
use Rattle.elf_load.specs.declared.walk.Found.{Found}
use Rattle.elf_load.specs.Headers.{program_header, first_headers, headers_offset, segment_of}
use Rattle.elf_load.specs.Refusal.{is_interpreter, has_bad_range}
use Rattle.elf_load.specs.Answers.{lent}
use Rattle.elf_load.specs.Walk.{is_lendable, IsFound, AddsHeader}

pub first_headers-more : (file : List ℕ) (k : ℕ) → first_headers file (k + 1) ≡ first_headers file k ++ program_header file (headers_offset file + 32 * k) ∷ []
unfolding first_headers
first_headers-more file k = map-range_with_len_more (λ k. program_header file (headers_offset file + 32 * k)) 0 k k (omega arith)

or_false : (a b : Bool) → (a || (b || false)) ≡ (a || b)
or_false a true = refl
or_false a false = refl

pub list_any_push : {X : Type 0} (p : X → Bool) (xs : List X) (x : X) → list_any p (xs ++ x ∷ []) ≡ (list_any p xs || p x)
list_any_push p xs x = rw list_any-append (or_false (list_any p xs) (p x))

pub IsFound-none : (file : List ℕ) (found : Found) → found.interpreter ≡ false → found.bad_range ≡ false → found.segments.items ≡ []
    → IsFound file (first_headers file 0) found
unfolding first_headers
IsFound-none file found i b s = record { interpreter = i; bad_range = b; segments = ap (map lent) s }

one_more : (file : List ℕ) (b : Bool) (h : ProgramHeader) → map (segment_of file) (cond b (h ∷ []) []) ≡ cond b (segment_of file h ∷ []) []
one_more file true h = refl
one_more file false h = refl

-- the headers so far and one more
found_more : (file : List ℕ) (hs : List ProgramHeader) (h : ProgramHeader) (old new : Found) → IsFound file hs old → AddsHeader file h old new
    → IsFound file (hs ++ h ∷ []) new
found_more file hs h old new f a = record {
  interpreter = rw (list_any_push is_interpreter hs h, a.interpreter, f.interpreter) refl;
  bad_range = rw (list_any_push (has_bad_range file) hs h, a.bad_range, f.bad_range) refl;
  segments =
      let kept : filter (is_lendable file) (h ∷ []) ≡ cond (is_lendable file h) (h ∷ []) [] = refl in
      let one = one_more file (is_lendable file h) h in
      rw (filter-append, map-append, a.segments, f.segments, kept, one) refl;
}

pub IsFound-more : (file : List ℕ) (k : ℕ) (old new : Found) (h : ProgramHeader) → h ≡ program_header file (headers_offset file + 32 * k)
    → IsFound file (first_headers file k) old → AddsHeader file h old new → IsFound file (first_headers file (k + 1)) new
IsFound-more file k old new h e f a = rw first_headers-more (rw (← e) (found_more file (first_headers file k) h old new f a))
