-- What parity detects, in words.
use Rattle.std.specs.Prelude.{ℕ, List, [], ◌∷◌, codes, decimal, map}
use Rattle.bit_field.specs.Names.{name_of}
use Rattle.avf_report.specs.Texts.{text_of}
use Rattle.due_parity.specs.declared.text.DueRow.{DueRow}

abbrev pub heading : List (List ℕ)
heading = codes "structure" ∷ codes "true" ∷ codes "false" ∷ codes "quiet" ∷ []

abbrev pub row_line : DueRow → List (List ℕ)
row_line row = name_of row.structure ∷ decimal row.counts.true_due ∷ decimal row.counts.false_due ∷ decimal row.counts.quiet ∷ []

-- the lines, each by its words
unfoldable pub due_lines : ℕ → List DueRow → List (List (List ℕ))
due_lines cycles rows = (codes "cycles" ∷ decimal cycles ∷ []) ∷ heading ∷ map row_line rows

abbrev pub due_text_of : ℕ → List DueRow → List ℕ
due_text_of cycles rows = text_of (due_lines cycles rows)
