-- The lines of a file, and the faults of a line at its place.
use Rattle.std.specs.Prelude.{ℕ, ◌+◌, ◌==◌, Bool, true, false, ◌&&◌, nat_lt, nat_le, if◌then◌else◌}
use Rattle.std.specs.Prelude.{List, [], ◌∷◌, length, codes, bytes_eq, Option, None, Some, Result, Ok, Err}
use Rattle.std.specs.Option.{option_and_then}
use Rattle.bit_field.specs.Shapes.{bits_in}
use Rattle.bit_field.specs.declared.places.Structure.{Structure}
use Rattle.bit_field.specs.declared.shapes.Shape.{Shape}
use Rattle.run_record.specs.Run.{RecordedRun}
use Rattle.class_map.specs.Lines.{follows, pairs_of}
use Rattle.class_map.specs.Spellings.{Said, number_behind, said, structure_of}
use Rattle.class_map.specs.Texts.{line_feed, title}
use Rattle.class_map.specs.declared.fault.Fault.{Fault}
use Rattle.class_map.specs.declared.fault.Fault.TheVariants.{Misspelled, OtherRun, OutOfRange, OutOfOrder, OtherClass}
use Rattle.class_map.specs.declared.judge.TheConstants.{LONGEST_LINE}
use Rattle.class_map.specs.declared.map_line.MapLine.{MapLine}
use Rattle.class_map.specs.declared.progress.Progress.{Progress}

-- a line of a file: its bytes without the line feed, and whether it has one; only the last may lack it
pub record FileLine : Type 0 where
  pub text : List ℕ
  pub is_ended : Bool

-- the byte in front of the first line
abbrev pub onto_line : ℕ → List FileLine → List FileLine
onto_line b [] = record { text = b ∷ []; is_ended = false } ∷ []
onto_line b (line ∷ lines) = record line { text = b ∷ line.text } ∷ lines

unfoldable pub lines_of : List ℕ → List FileLine
lines_of [] = []
lines_of (b ∷ bs) = if b == line_feed then record { text = []; is_ended = true } ∷ lines_of bs else onto_line b (lines_of bs)

-- the number that is told of a fault
abbrev pub fault_number : Fault → ℕ
fault_number Misspelled = 1
fault_number OtherRun = 2
fault_number OutOfRange = 3
fault_number OutOfOrder = 4
fault_number OtherClass = 5

-- ---- what a line says at its place, or its first fault but for that of its classes; the first three lines say nothing of bits

abbrev pub title_line : List ℕ → Result (Option MapLine) Fault
title_line text = if bytes_eq text title then Ok None else Err Misspelled

abbrev pub count_line : Option ℕ → ℕ → Result (Option MapLine) Fault
count_line None due = Err Misspelled
count_line (Some n) due = if n == due then Ok None else Err OtherRun

-- a bit of the machine, some cycles of the run, and a rule
abbrev pub is_within : Shape → ℕ → Structure → Said → Bool
is_within shape cycles s words =
    nat_lt words.bit (bits_in s shape) && nat_lt words.from words.to && nat_le words.to cycles
    && nat_le 1 words.rule && nat_le words.rule 13

abbrev pub placed_at : Shape → ℕ → Said → Structure → Option MapLine
placed_at shape cycles words s =
    if is_within shape cycles s words
    then Some (record { place = record { structure = s; bit = words.bit }; from = words.from; to = words.to; rule = words.rule })
    else None

unfoldable pub placed : Shape → ℕ → Said → Option MapLine
placed shape cycles words = option_and_then (placed_at shape cycles words) (structure_of words.name)

abbrev pub ordered : Option MapLine → Option MapLine → Result (Option MapLine) Fault
ordered before None = Err OutOfRange
ordered before (Some line) = if follows before line then Ok (Some line) else Err OutOfOrder

abbrev pub meant : Shape → ℕ → Option MapLine → Option Said → Result (Option MapLine) Fault
meant shape cycles before None = Err Misspelled
meant shape cycles before (Some words) = ordered before (placed shape cycles words)

-- behind lines that came so far, the next line says
unfoldable pub says : RecordedRun → Progress → List ℕ → Result (Option MapLine) Fault
says run p text =
    if nat_lt LONGEST_LINE (length text) then Err Misspelled
    else if p.seen == 0 then title_line text
    else if p.seen == 1 then count_line (number_behind (codes "cycles ") text) run.cycles
    else if p.seen == 2 then count_line (number_behind (codes "instructions ") text) run.instructions
    else meant run.shape run.cycles p.before (said text)

abbrev pub reads : RecordedRun → Progress → FileLine → Result (Option MapLine) Fault
reads run p line = if line.is_ended then says run p line.text else Err Misspelled

-- how far a file is read behind one more line
abbrev pub behind : Progress → Option MapLine → Progress
behind p None = record p { seen = p.seen + 1 }
behind p (Some line) = record { seen = p.seen + 1; before = Some line; pairs = p.pairs + pairs_of line }

-- nothing is read
abbrev pub start : Progress
start = record { seen = 0; before = None; pairs = 0 }
