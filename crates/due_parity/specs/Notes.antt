-- What is kept of the touches of each group: their cycles, and whether they read the group.
use Rattle.std.specs.Prelude.{◌≡◌, ◌<◌, ◌*◌, ℕ, zero, suc, true, false, nat_lt, if◌then◌else◌}
use Rattle.std.specs.Prelude.{List, [], ◌∷◌, length, Option, Some, None, AllPairs, slice_index_or}
use Rattle.elf_load.specs.Image.{LoadedImage}
use Rattle.bit_field.specs.Shapes.{slots}
use Rattle.bit_field.specs.declared.places.Structure.{Structure}
use Rattle.bit_field.specs.declared.places.Structure.TheVariants.{Rf, CData}
use Rattle.bit_field.specs.declared.shapes.Shape.{Shape}
use Rattle.cyc_machine.specs.Run.{state_at, with_one}
use Rattle.cyc_machine.specs.declared.registers.TheConstants.{REGISTERS}
use Rattle.run_record.specs.Run.{RecordedRun}
use Rattle.due_parity.specs.Touches.{group_touch}
use Rattle.due_parity.specs.declared.fate.Fate.{Fate}
use Rattle.due_parity.specs.declared.fate.Fate.TheVariants.{Detected, Quiet}
use Rattle.due_parity.specs.declared.watched.Noted.{Noted}
use Rattle.due_parity.specs.declared.touch.Touch.{Touch}
use Rattle.due_parity.specs.declared.touch.Touch.TheVariants.{Untouched, ReadOut, Renewed}

abbrev pub IsRising : List Noted → Type 0
IsRising notes = AllPairs (λ a b. a.cycle < b.cycle) notes

-- what is noted of a cycle
abbrev pub noted : Touch → ℕ → Option Noted
noted Untouched c = None
noted ReadOut c = Some (record { cycle = c; reads = true })
noted Renewed c = Some (record { cycle = c; reads = false })

-- the notes of the cycles below t
unfoldable pub noted_below : (ℕ → Touch) → ℕ → List Noted
noted_below touches zero = []
noted_below touches (suc t) = with_one (noted_below touches t) (noted (touches t) t)

abbrev pub fate_of : Noted → Fate
fate_of note = if note.reads then Detected note.cycle else Quiet

abbrev pub fate_of_first : Option Noted → Fate
fate_of_first None = Quiet
fate_of_first (Some note) = fate_of note

-- by the first note from cycle t on
unfoldable pub fate_in : ℕ → List Noted → Fate
fate_in t [] = Quiet
fate_in t (note ∷ notes) = if nat_lt note.cycle t then fate_in t notes else fate_of note

-- a row of notes for each group of each protected structure
pub record Rows : Type 0 where
  pub registers : List (List Noted)
  pub bytes : List (List Noted)

abbrev pub rows_of : Structure → Rows → List (List Noted)
rows_of Rf rows = rows.registers
rows_of CData rows = rows.bytes
rows_of _ rows = []

abbrev pub group_count : Structure → Shape → ℕ
group_count Rf shape = REGISTERS
group_count CData shape = 16 * slots shape
group_count _ shape = 0

-- what cycle c of the run of an image does to a group
abbrev pub group_touch_at : LoadedImage → Shape → Structure → ℕ → ℕ → Touch
group_touch_at image shape structure g c = group_touch structure (state_at image shape c) g

-- the rows of a structure hold the touches of the cycles below t
pub record AreNoted (image : LoadedImage) (shape : Shape) (structure : Structure) (t : ℕ) (rows : List (List Noted)) : Type 0 where
  pub groups : length rows ≡ group_count structure shape
  pub row : (g : ℕ) → g < group_count structure shape
      → slice_index_or rows g [] ≡ noted_below (group_touch_at image shape structure g) t

-- the table is that of a recorded run
pub record IsTable (r : RecordedRun) (rows : Rows) : Type 0 where
  pub registers : AreNoted r.image r.shape Rf r.cycles rows.registers
  pub bytes : AreNoted r.image r.shape CData r.cycles rows.bytes
