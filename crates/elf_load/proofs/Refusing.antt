-- The first reason that stands, found part by part.
use Rattle.std.proofs.Common.{◌≡◌, ℕ, ◌<◌, ◌≤◌, Bool, true, false, cond, ◌&&◌, List, [], ◌∷◌, map, Option, Some, None, refl, ap, sym, ◌∙◌}
use Rattle.std.specs.List.{filter, list_any, All, AllPairs}
use Rattle.std.specs.List.Sorted.{IsPermutation}
use Rattle.std.proofs.lemmas.Bool.{or_parts, and_parts, ltb-true}
use Rattle.std.proofs.lemmas.List.Elements.{All-map, All-weaker, filter_passes}
use Rattle.std.proofs.lemmas.List.Sorted.{IsPermutation-map, All-permutation}
use Rattle.elf_load.specs.declared.headers.ProgramHeader.{ProgramHeader}
use Rattle.elf_load.specs.declared.segment.Segment.{Segment}
use Rattle.elf_load.specs.declared.walk.Found.{Found}
use Rattle.elf_load.specs.Answers.{lent, AreSegments}
use Rattle.elf_load.specs.Headers.{word_at, program_headers, is_loadable, segment_of, segments_of, entry_of}
use Rattle.elf_load.specs.Layout.{AreInOrder}
use Rattle.elf_load.specs.Refusal.{file_refusal, headers_refusal, layout_refusal, first_refusal, has_bad_range, has_bad_layout}
use Rattle.elf_load.specs.Walk.{is_lendable, IsFound}
use Rattle.elf_load.proofs.Images.{layout_refusal-IsPermutation, no_overlap-has_bad_layout}
use Rattle.elf_load.proofs.Neighbours.{AreApart-no_overlap}
use Rattle.elf_load.proofs.Lent.{rising-lent}

pub refused_by_file : (file : List ℕ) (size k : ℕ) → file_refusal file ≡ Some k → first_refusal file size ≡ Some k
unfolding first_refusal
refused_by_file file size k h = rw h refl

-- what is left where the file header is accepted
pub refused_by_headers : (file : List ℕ) (size k : ℕ) → file_refusal file ≡ None → headers_refusal file ≡ Some k → first_refusal file size ≡ Some k
unfolding first_refusal
refused_by_headers file size k h g = rw (h, g) refl

pub refused_by_layout : (file : List ℕ) (size : ℕ) → file_refusal file ≡ None → headers_refusal file ≡ None
    → first_refusal file size ≡ layout_refusal (segments_of file) (entry_of file) size
unfolding first_refusal
refused_by_layout file size h g = rw (h, g) refl

pub headers_refusal-interpreter : (file : List ℕ) (found : Found) → IsFound file (program_headers file) found → found.interpreter ≡ true
    → headers_refusal file ≡ Some 9
unfolding headers_refusal
headers_refusal-interpreter file found f h = rw (← f.interpreter, h) refl

pub headers_refusal-range : (file : List ℕ) (found : Found) → IsFound file (program_headers file) found → found.interpreter ≡ false → found.bad_range ≡ true
    → headers_refusal file ≡ Some 10
unfolding headers_refusal
headers_refusal-range file found f h g = rw (← f.interpreter, ← f.bad_range, h, g) refl

pub headers_refusal-none : (file : List ℕ) (found : Found) → IsFound file (program_headers file) found → found.interpreter ≡ false → found.bad_range ≡ false
    → headers_refusal file ≡ None
unfolding headers_refusal
headers_refusal-none file found f h g = rw (← f.interpreter, ← f.bad_range, h, g) refl

all_lendable : (file : List ℕ) (hs : List ProgramHeader) → list_any (has_bad_range file) hs ≡ false → filter (is_lendable file) hs ≡ filter is_loadable hs
unfolding is_lendable
all_lendable file [] e = refl
all_lendable file (h ∷ hs) e =
    let parts : (has_bad_range file h ≡ false) × (list_any (has_bad_range file) hs ≡ false) = or_parts _ _ e in
    let rest : filter (is_lendable file) hs ≡ filter is_loadable hs = all_lendable file hs parts.1 in
    rw (parts.0, rest) (and_true (is_loadable h) (filter is_loadable hs) h)
  where
    and_true : (b : Bool) (xs : List ProgramHeader) (x : ProgramHeader) → cond (b && true) (x ∷ xs) xs ≡ cond b (x ∷ xs) xs
    and_true true xs x = refl
    and_true false xs x = refl

found_segments : (file : List ℕ) (found : Found) → IsFound file (program_headers file) found → found.bad_range ≡ false
    → map lent found.segments.items ≡ segments_of file
unfolding segments_of
found_segments file found f g =
    f.segments ∙ ap (map (segment_of file)) (all_lendable file (program_headers file) (sym f.bad_range ∙ g))

pub found-IsPermutation : (file : List ℕ) (found : Found) (ys : List Segment) → IsFound file (program_headers file) found → found.bad_range ≡ false
    → IsPermutation found.segments.items ys → IsPermutation (segments_of file) (map lent ys)
found-IsPermutation file found ys f g p =
    rw (← found_segments file found f g) (IsPermutation-map lent found.segments.items ys p)

loadable_some : (h : ProgramHeader) → is_loadable h ≡ true → 0 < h.memsz
unfolding is_loadable
loadable_some h e = ltb-true 0 h.memsz (and_parts _ _ e).1

segments_of-some : (file : List ℕ) → All (λ s. 0 < s.memsz) (segments_of file)
unfolding segments_of segment_of
segments_of-some file =
    All-map (λ s. 0 < s.memsz) (segment_of file) (filter is_loadable (program_headers file))
    (All-weaker (λ h. is_loadable h ≡ true) (λ h. 0 < h.memsz) loadable_some (filter is_loadable (program_headers file))
    (filter_passes is_loadable (program_headers file)))

pub sorted-AreInOrder : (file : List ℕ) (ys : List Segment) → IsPermutation (segments_of file) (map lent ys) → AllPairs (λ s t. s.vaddr ≤ t.vaddr) ys
    → AreInOrder (map lent ys)
sorted-AreInOrder file ys p r = record {
  some = All-permutation (λ s. 0 < s.memsz) (segments_of file) (map lent ys) p (segments_of-some file);
  rising = rising-lent ys r;
}

-- the answer for all of the file, from that for the segments in order
pub refused_in_order : (file : List ℕ) (found : Found) (ys : List Segment) (entry size : ℕ) (r : Option ℕ) → file_refusal file ≡ None
    → IsFound file (program_headers file) found → found.interpreter ≡ false → found.bad_range ≡ false →
    IsPermutation found.segments.items ys → entry ≡ word_at file 24 → r ≡ layout_refusal (map lent ys) entry size → first_refusal file size ≡ r
unfolding entry_of
refused_in_order file found ys entry size r a f i b p e h =
    let left : first_refusal file size ≡ layout_refusal (segments_of file) (entry_of file) size =
    refused_by_layout file size a (headers_refusal-none file found f i b) in
    let same : layout_refusal (segments_of file) entry size ≡ layout_refusal (map lent ys) entry size =
    layout_refusal-IsPermutation (segments_of file) (map lent ys) entry size (found-IsPermutation file found ys f b p) in
    left ∙ ap (λ (n : ℕ). layout_refusal (segments_of file) n size) (sym e) ∙ same ∙ sym h

-- segments in order with an accepted layout are apart
pub accepted-AreSegments : (file : List ℕ) (ys : List Segment) (entry size : ℕ) → IsPermutation (segments_of file) (map lent ys) → AreInOrder (map lent ys)
    → layout_refusal (map lent ys) entry size ≡ None → AreSegments file (map lent ys)
unfolding layout_refusal
accepted-AreSegments file ys entry size p o h = record {
  same = p;
  order = AreApart-no_overlap (map lent ys) o (no_overlap-has_bad_layout (map lent ys) size (first_no (has_bad_layout (map lent ys) size) _ h));
}
  where
    first_no : (b : Bool) (rest : Option ℕ) → cond b (Some 11) rest ≡ None → b ≡ false
    first_no true rest e = absurd (cc)
    first_no false rest e = refl
