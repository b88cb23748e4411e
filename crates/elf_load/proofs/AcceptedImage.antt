-- Accepted contents mean an image: the bytes of its RAM are the file's, or 0.
use Rattle.std.proofs.Common.{◌⊎◌, inl, inr, ℕ, ◌+◌, ◌-◌, ◌^◌, ◌<◌, ◌≤◌, Bool, true, false, cond, List, [], ◌∷◌, map, slice_index, slice_range, subst, sym}
use Rattle.std.proofs.Common.{arith, lit<}
use Rattle.std.specs.List.{All, filter, range_with_len}
use Rattle.std.proofs.Math.ListN.{get_or-eq_default}
use Rattle.std.proofs.lemmas.Bool.{cases_lt}
use Rattle.std.proofs.lemmas.List.FromFn.{get_or-map-range_with_len, length-map-range_with_len}
use Rattle.elf_load.specs.declared.headers.ProgramHeader.{ProgramHeader}
use Rattle.elf_load.specs.Headers.{entry_of, is_loadable, program_headers, segment_of, segments_of}
use Rattle.elf_load.specs.Law.{AcceptedMeansImage}
use Rattle.elf_load.specs.Meaning.{base_of, byte_in, holds, image_of}
use Rattle.elf_load.proofs.Accepted.{accepted-IsImage}
use Rattle.elf_load.proofs.ByteLists.{range-below}
use Rattle.elf_load.proofs.Loaded.{accepted_parts}

byte_below : (file : List ℕ) (headers : List ProgramHeader) (a : ℕ) → All (λ b. b < 2 ^ 8) file → byte_in (map (segment_of file) headers) a < 256
unfolding byte_in segment_of
byte_below file [] a all = lit< tt
byte_below file (h ∷ rest) a all = go (holds (segment_of file h) a) (byte_in (map (segment_of file) rest) a) (byte_below file rest a all)
  where
    go : (b : Bool) (x : ℕ) → x < 256 → cond b (slice_index (slice_range file h.offset (h.offset + h.filesz)) (a - h.vaddr)) x < 256
    go true x l = range-below file h.offset (h.offset + h.filesz) (a - h.vaddr) all
    go false x l = l

ram_below : (f : ℕ → ℕ) (base size k : ℕ) → ((a : ℕ) → f a < 256) → slice_index (map f (range_with_len base size)) k < 256
ram_below f base size k below = go (cases_lt k size)
  where
    go : (k < size) ⊎ (size ≤ k) → slice_index (map f (range_with_len base size)) k < 256
    go (inl l) = subst (λ n. n < 256) (sym (get_or-map-range_with_len f base size k (base + k) 0 l (omega arith))) (below (base + k))
    go (inr m) =
        subst (λ n. n < 256) (sym (get_or-eq_default (map f (range_with_len base size)) 0 (omega (arith, length-map-range_with_len f base size)))) (lit< tt)

pub accepted-image_of : (file : List ℕ) (size : ℕ) → AcceptedMeansImage file size
unfolding image_of segments_of
accepted-image_of file size = record {
  image = λ all ram accepted.
      accepted-IsImage (segments_of file) (entry_of file) size ram (accepted_parts file size accepted).2
      (λ k. ram_below (byte_in (segments_of file)) (base_of (segments_of file)) size k
      (λ a. byte_below file (filter is_loadable (program_headers file)) a all));
}
