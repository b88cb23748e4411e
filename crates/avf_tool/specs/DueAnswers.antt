-- What is due of parity: how many flips of the protected structures are detected.
use Rattle.std.specs.Prelude.{◌≡◌, List, [], ◌∷◌, map}
use Rattle.std.specs.List.{All}
use Rattle.bit_field.specs.declared.places.Structure.{Structure}
use Rattle.bit_field.specs.declared.places.Structure.TheVariants.{Rf, CData}
use Rattle.run_record.specs.Run.{RecordedRun}
use Rattle.due_parity.specs.Due.{IsDue}
use Rattle.due_parity.specs.DueTexts.{due_text_of}
use Rattle.due_parity.specs.declared.text.DueRow.{DueRow}
use Rattle.avf_tool.specs.Due.{Answer, Text}
use Rattle.avf_tool.specs.ReportAnswers.{story_of}
use Rattle.avf_tool.specs.declared.command.Protected.{Protected}
use Rattle.avf_tool.specs.declared.command.Protected.TheVariants.{Registers, Data, Both}

-- the protected structures, in the order of a report
abbrev pub structures_in : Protected → List Structure
structures_in Registers = Rf ∷ []
structures_in Data = CData ∷ []
structures_in Both = Rf ∷ CData ∷ []

-- the counts of these structures of a run
pub record AreDue (run : RecordedRun) (structures : List Structure) (rows : List DueRow) : Type 0 where
  pub named : map (λ (row : DueRow). row.structure) rows ≡ structures
  pub each : All (λ (row : DueRow). IsDue (story_of run) row.structure row.counts) rows

abbrev pub rows_due : RecordedRun → List Structure → Answer → Type 0
rows_due run structures due = (rows : List DueRow) × AreDue run structures rows × (Text (due_text_of run.cycles rows) ≡ due)

abbrev pub parity_due : RecordedRun → Protected → Answer → Type 0
parity_due run protected = rows_due run (structures_in protected)
