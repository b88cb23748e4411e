-- The segments of an accepted file make the image that it means.
use Rattle.std.proofs.Common.{◌≡◌, ℕ, ◌+◌, ◌-◌, ◌≤◌, Bool, true, false, cond, List, [], ◌∷◌, length, map, drop, slice_range, Option, Some, None, refl, ap}
use Rattle.std.proofs.Common.{sym, ◌∙◌, arith}
use Rattle.std.specs.List.{filter, list_any, All}
use Rattle.std.specs.Option.{option_or}
use Rattle.std.proofs.lemmas.Bool.{or_parts}
use Rattle.std.proofs.lemmas.Bool.Decides.{nat_tests}
use Rattle.std.proofs.lemmas.List.{length-take}
use Rattle.std.proofs.lemmas.List.Elements.{All-cons, All-nil}
use Rattle.std.proofs.lemmas.List.Sorted.{All-permutation, IsPermutation-sym}
use Rattle.elf_load.specs.declared.headers.ProgramHeader.{ProgramHeader}
use Rattle.elf_load.specs.Answers.{AreSegments}
use Rattle.elf_load.specs.Headers.{LoadSegment, word_at, entry_of, program_headers, is_loadable, segment_of, segments_of}
use Rattle.elf_load.specs.Meaning.{image_in, image_of}
use Rattle.elf_load.specs.Refusal.{file_refusal, headers_refusal, layout_refusal, first_refusal, is_interpreter, has_bad_range}
use Rattle.elf_load.proofs.Images.{layout_refusal-IsPermutation, image_in-IsPermutation}
use Rattle.elf_load.proofs.Neighbours.{no_overlap-AreApart}

neither : (a b : Option ℕ) → option_or a b ≡ None → (a ≡ None) × (b ≡ None)
neither None b e = (refl, e)
neither (Some k) b e = absurd (cc)

pub accepted_parts : (file : List ℕ) (size : ℕ) → first_refusal file size ≡ None
    → (file_refusal file ≡ None) × (headers_refusal file ≡ None) × (layout_refusal (segments_of file) (entry_of file) size ≡ None)
unfolding first_refusal
accepted_parts file size h =
    let first = neither _ _ h in
    let rest = neither _ _ first.1 in
    (first.0, rest.0, rest.1)

pub accepted-file : (file : List ℕ) (size : ℕ) → first_refusal file size ≡ None → file_refusal file ≡ None
accepted-file file size h = (accepted_parts file size h).0

-- the layout of the segments in order is accepted as well
pub accepted-layout : (file : List ℕ) (size entry : ℕ) (xs : List LoadSegment) → first_refusal file size ≡ None → AreSegments file xs
    → entry ≡ word_at file 24 → layout_refusal xs entry size ≡ None
unfolding entry_of
accepted-layout file size entry xs h a e =
    sym (layout_refusal-IsPermutation (segments_of file) xs entry size a.same)
    ∙ ap (λ (n : ℕ). layout_refusal (segments_of file) n size) e
    ∙ (accepted_parts file size h).2

second_no : (a b : Bool) (j k : ℕ) → cond a (Some j) (cond b (Some k) None) ≡ None → b ≡ false
second_no true b j k e = absurd (cc)
second_no false true j k e = absurd (cc)
second_no false false j k e = refl

no_bad_range : (file : List ℕ) → headers_refusal file ≡ None → list_any (has_bad_range file) (program_headers file) ≡ false
unfolding headers_refusal
no_bad_range file h = second_no (list_any is_interpreter (program_headers file)) (list_any (has_bad_range file) (program_headers file)) 9 10 h

short_segment : (file : List ℕ) (h : ProgramHeader) → has_bad_range file h ≡ false → is_loadable h ≡ true
    → length (slice_range file h.offset (h.offset + h.filesz)) ≤ h.memsz
unfolding has_bad_range is_loadable
short_segment file h b l = grind (arith, nat_tests, length-take (h.offset + h.filesz - h.offset) (drop h.offset file))

short_segments : (file : List ℕ) (hs : List ProgramHeader) → list_any (has_bad_range file) hs ≡ false
    → All (λ s. length s.bytes ≤ s.memsz) (map (segment_of file) (filter is_loadable hs))
unfolding segment_of
short_segments file [] e = All-nil (λ (s : LoadSegment). length s.bytes ≤ s.memsz)
short_segments file (h ∷ hs) e =
    let parts : (has_bad_range file h ≡ false) × (list_any (has_bad_range file) hs ≡ false) = or_parts _ _ e in
    let rest : All (λ s. length s.bytes ≤ s.memsz) (map (segment_of file) (filter is_loadable hs)) = short_segments file hs parts.1 in
    one_more (is_loadable h) (segment_of file h) (filter is_loadable hs) h refl rest (short_segment file h parts.0)
  where
    one_more : (b : Bool) (s : LoadSegment) (xs : List ProgramHeader) (h : ProgramHeader) → s ≡ segment_of file h
        → All (λ s. length s.bytes ≤ s.memsz) (map (segment_of file) xs) →
        (b ≡ true → length (slice_range file h.offset (h.offset + h.filesz)) ≤ h.memsz) → All (λ s. length s.bytes ≤ s.memsz)
        (map (segment_of file) (cond b (h ∷ xs) xs))
    one_more true s xs h e all short = All-cons (λ (s : LoadSegment). length s.bytes ≤ s.memsz) (segment_of file h) (map (segment_of file) xs) (short refl) all
    one_more false s xs h e all short = all

-- no segment begins with more bytes than it has
pub accepted-bytes : (file : List ℕ) (size : ℕ) (xs : List LoadSegment) → first_refusal file size ≡ None → AreSegments file xs
    → All (λ s. length s.bytes ≤ s.memsz) xs
unfolding segments_of
accepted-bytes file size xs h a =
    All-permutation (λ s. length s.bytes ≤ s.memsz) (segments_of file) xs a.same
    (short_segments file (program_headers file) (no_bad_range file (accepted_parts file size h).1))

-- their image is the file's
pub accepted-image : (file : List ℕ) (size entry : ℕ) (xs : List LoadSegment) → AreSegments file xs → entry ≡ word_at file 24
    → image_in xs entry size ≡ image_of file size
unfolding image_of entry_of
accepted-image file size entry xs a e =
    image_in-IsPermutation xs (segments_of file) entry size (IsPermutation-sym (segments_of file) xs a.same) (no_overlap-AreApart xs a.order)
    ∙ ap (λ (n : ℕ). image_in (segments_of file) n size) e
