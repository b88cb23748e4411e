-- What is due of the map of a run: the intervals of cycles in which a bit is un-ACE.
use Rattle.std.specs.Prelude.{◌≡◌, List}
use Rattle.run_record.specs.Run.{RecordedRun}
use Rattle.class_map.specs.Maps.{AreAll}
use Rattle.class_map.specs.Written.{text_of}
use Rattle.class_map.specs.declared.map_line.MapLine.{MapLine}
use Rattle.avf_tool.specs.BitAnswers.{IsHarmless}
use Rattle.avf_tool.specs.Due.{Answer, Text}
use Rattle.avf_tool.specs.ReportAnswers.{story_of}

-- These are all lines of the run's map, in order; and what they call un-ACE is harmless.
pub record HasMap (run : RecordedRun) (lines : List MapLine) : Type 0 where
  pub all : AreAll (story_of run) lines
  pub harmless : IsHarmless run

abbrev pub map_due : RecordedRun → Answer → Type 0
map_due run due = (lines : List MapLine) × HasMap run lines × (Text (text_of (story_of run) lines) ≡ due)
