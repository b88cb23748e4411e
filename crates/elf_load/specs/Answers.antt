-- What `segments` and `load` answer.
use Rattle.std.specs.Prelude.{◌≡◌, ℕ, List, map, Some, None, Result, Ok, Err, Vec, ⊤}
use Rattle.std.specs.List.Sorted.{IsPermutation}
use Rattle.std.specs.declared.alloc.Global.{Global}
use Rattle.elf_load.specs.Headers.{LoadSegment, segments_of}
use Rattle.elf_load.specs.Image.{LoadedImage}
use Rattle.elf_load.specs.Layout.{AreApart}
use Rattle.elf_load.specs.Meaning.{image_of}
use Rattle.elf_load.specs.Refusal.{first_refusal}
use Rattle.elf_load.specs.declared.error.LoadError.{LoadError}
use Rattle.elf_load.specs.declared.error.LoadError.TheVariants.{Bad, OutOfMemory}
use Rattle.elf_load.specs.declared.segment.Segment.{Segment}

-- what a `Segment` lends
unfoldable pub lent : Segment → LoadSegment
lent s = record { vaddr = s.vaddr; bytes = s.bytes.now; memsz = s.memsz; exec = s.exec }

-- These are the file's loadable segments, each once, none empty, in order of address: each ends before the next begins.
pub record AreSegments (file : List ℕ) (segments : List LoadSegment) : Type 0 where
  pub same : IsPermutation (segments_of file) segments
  pub order : AreApart segments

-- The segments, where no reason to refuse stands, or the first reason, or `OutOfMemory`.
abbrev pub LendsSegments : List ℕ → ℕ → Result (Vec Segment Global) LoadError → Type 0
LendsSegments file size (Ok segments) = (first_refusal file size ≡ None) × AreSegments file (map lent segments.items)
LendsSegments file size (Err (Bad k)) = first_refusal file size ≡ Some k
LendsSegments file size (Err OutOfMemory) = ⊤

-- The image that the file means, where no reason to refuse stands, or the first reason, or `OutOfMemory`.
abbrev pub Loads : List ℕ → ℕ → Result LoadedImage LoadError → Type 0
Loads file size (Ok image) = (first_refusal file size ≡ None) × (image ≡ image_of file size)
Loads file size (Err (Bad k)) = first_refusal file size ≡ Some k
Loads file size (Err OutOfMemory) = ⊤
