-- The status and the line of each refusal, and what it rests on.
use Rattle.std.specs.Prelude.{ℕ, List, [], ◌∷◌, codes, decimal}
use Rattle.std.specs.List.{concat}
use Rattle.avf_base.specs.declared.refusal.Refusal.{Refusal}
use Rattle.avf_base.specs.declared.refusal.Refusal.TheVariants.{Usage, ReadFault, BadImage, NoEnd, NoSuchBit, WriteFault, OutOfMemory, BadSource, BadMap}

-- the program's status, 0 being no refusal
abbrev pub status_of : Refusal → ℕ
status_of Usage = 2
status_of ReadFault = 3
status_of (BadImage k) = 4
status_of NoEnd = 5
status_of NoSuchBit = 6
status_of WriteFault = 7
status_of OutOfMemory = 8
status_of (BadSource line cause) = 9
status_of (BadMap line cause) = 10

-- the line that tells it on the standard error
abbrev pub line_of : Refusal → List ℕ
line_of Usage = codes "avf: usage\n"
line_of ReadFault = codes "avf: read fault\n"
line_of (BadImage k) = concat (codes "avf: bad image " ∷ decimal k ∷ codes "\n" ∷ [])
line_of NoEnd = codes "avf: no end\n"
line_of NoSuchBit = codes "avf: no such bit\n"
line_of WriteFault = codes "avf: write fault\n"
line_of OutOfMemory = codes "avf: out of memory\n"
line_of (BadSource line cause) = concat (codes "avf: bad source " ∷ decimal line ∷ codes " " ∷ decimal cause ∷ codes "\n" ∷ [])
line_of (BadMap line cause) = concat (codes "avf: bad map " ∷ decimal line ∷ codes " " ∷ decimal cause ∷ codes "\n" ∷ [])

-- what stands behind a refusal
pub data Cause : Type 0 where
  -- the words of the command line
  ByWords : Cause
  -- a fault of the shelf
  ByShelf : Cause
  -- the contents of the files
  ByContents : Cause
  -- a fault of the standard output
  ByOut : Cause
  -- want of memory, which may come at any time
  Free : Cause

abbrev pub cause_of : Refusal → Cause
cause_of Usage = ByWords
cause_of ReadFault = ByShelf
cause_of (BadImage k) = ByContents
cause_of NoEnd = ByContents
cause_of NoSuchBit = ByContents
cause_of WriteFault = ByOut
cause_of OutOfMemory = Free
cause_of (BadSource line cause) = ByContents
cause_of (BadMap line cause) = ByContents
