-- What was written of the map of a run.
use Rattle.std.specs.Prelude.{ℕ, List, Option, Result, Ok, Err}
use Rattle.avf_base.specs.Buffers.{GrowsButFor}
use Rattle.avf_base.specs.Moves.{Grows, GrowsByFront}
use Rattle.avf_base.specs.declared.failure.Failed.{Failed}
use Rattle.ace_rules.specs.Notes.{Story}
use Rattle.class_map.specs.Maps.{AreAll}
use Rattle.class_map.specs.Texts.{map_text}
use Rattle.class_map.specs.declared.map_line.MapLine.{MapLine}

-- the text of the map of a run with these lines
abbrev pub text_of : Story → List MapLine → List ℕ
text_of story lines = map_text story.r.cycles story.r.instructions lines

-- The text so far: all but what is held of its end was taken; or a write failed, and a front of it was.
abbrev pub IsOnItsWay : Option (List ℕ) → Option (List ℕ) → List ℕ → List ℕ → Result (Unit {0}) Failed → Type 0
IsOnItsWay old new held text (Ok done) = GrowsButFor old new held text
IsOnItsWay old new held text (Err failed) = GrowsByFront old new text

-- the whole text was taken; or a write failed, and a front of it was
abbrev pub IsTextWritten : Option (List ℕ) → Option (List ℕ) → List ℕ → Result (Unit {0}) Failed → Type 0
IsTextWritten old new text (Ok done) = Grows old new text
IsTextWritten old new text (Err failed) = GrowsByFront old new text

-- what was taken grew by the whole map
pub record IsMapWritten (story : Story) (old new : Option (List ℕ)) : Type 0 where
  pub lines : List MapLine
  pub all : AreAll story lines
  pub grows : Grows old new (text_of story lines)

-- what was taken grew by a front of the map
pub record IsFrontWritten (story : Story) (old new : Option (List ℕ)) : Type 0 where
  pub lines : List MapLine
  pub all : AreAll story lines
  pub grows : GrowsByFront old new (text_of story lines)
