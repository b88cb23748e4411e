-- Words for the judging of one more line.
use Rattle.std.specs.Prelude.{◌≡◌, ℕ, ◌<◌, ◌≤◌, true, List, Option, None, Some}
use Rattle.bit_field.specs.Shapes.{IsPlaceIn}
use Rattle.bit_field.specs.declared.shapes.Shape.{Shape}
use Rattle.run_record.specs.Run.{RecordedRun}
use Rattle.class_map.specs.Faults.{FileLine}
use Rattle.class_map.specs.Lines.{follows}
use Rattle.class_map.specs.declared.map_line.MapLine.{MapLine}
use Rattle.class_map.specs.declared.progress.Progress.{Progress}

-- a line with its line feed
abbrev pub ended_line : List ℕ → FileLine
ended_line text = record { text = text; is_ended = true }

-- some cycles of the run, of a bit of the machine
pub record IsInRun (shape : Shape) (cycles : ℕ) (line : MapLine) : Type 0 where
  pub place : IsPlaceIn shape line.place
  pub some : line.from < line.to
  pub within : line.to ≤ cycles

-- behind the line before
pub record IsSensible (shape : Shape) (cycles : ℕ) (before : Option MapLine) (line : MapLine) : Type 0 where
  pub in_run : IsInRun shape cycles line
  pub follows : follows before line ≡ true

-- what a line says, where it says something, fits to its place
abbrev pub IsFit : RecordedRun → Progress → Option MapLine → Type 0
IsFit run p None = p.seen ≤ 2
IsFit run p (Some line) = IsSensible run.shape run.cycles p.before line
