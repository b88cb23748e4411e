-- What is due of a map that is checked against a run.
use Rattle.std.specs.Prelude.{◌≡◌, ◌⊎◌, ℕ, List, Option, None, Some}
use Rattle.avf_base.specs.declared.refusal.Refusal.{Refusal}
use Rattle.avf_base.specs.declared.refusal.Refusal.TheVariants.{BadMap, ReadFault as read_fault}
use Rattle.run_record.specs.Run.{RecordedRun}
use Rattle.class_map.specs.Checks.{IsAccepted, IsFirstFault, IsHarmless}
use Rattle.class_map.specs.Faults.{lines_of, start}
use Rattle.class_map.specs.declared.error.MapError.{MapError}
use Rattle.class_map.specs.declared.error.MapError.TheVariants.{Bad, ReadFault}
use Rattle.avf_tool.specs.Due.{Answer, Text, Refused}
use Rattle.avf_tool.specs.ReportAnswers.{story_of}
use Rattle.avf_tool.specs.Texts.{accepted_text}

-- No line of the map has a fault, the lines hold so many pairs of a bit and a cycle, and each of these pairs is harmless.
pub record IsAcceptedMap (run : RecordedRun) (map : List ℕ) (pairs : ℕ) : Type 0 where
  pub accepted : IsAccepted (story_of run) (lines_of map) pairs
  pub harmless : IsHarmless (story_of run) map

abbrev pub accepted_due : RecordedRun → List ℕ → Answer → Type 0
accepted_due run map due = (pairs : ℕ) × IsAcceptedMap run map pairs × (Text (accepted_text pairs) ≡ due)

-- the first line with a fault, and its first fault
abbrev pub faulty_due : RecordedRun → List ℕ → Answer → Type 0
faulty_due run map due =
    (line : ℕ) × (cause : ℕ) × IsFirstFault (story_of run) start (lines_of map) line cause × (Refused (BadMap line cause) ≡ due)

abbrev pub map_checked : RecordedRun → List ℕ → Answer → Type 0
map_checked run map due = accepted_due run map due ⊎ faulty_due run map due

-- the same of a map that may not be told: then nothing is due
abbrev pub check_due : Option (List ℕ) → RecordedRun → Answer → Type 0
check_due None run due = ⊥
check_due (Some map) run due = map_checked run map due

-- why a map isn't accepted, as the tool tells it
abbrev pub refusal_of : MapError → Refusal
refusal_of (Bad line cause) = BadMap line cause
refusal_of ReadFault = read_fault
