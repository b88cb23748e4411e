use Rattle.std.proofs.Common.{◌≡◌, ◌++◌, string_bytes, take}
use Rattle.std.specs.List.{flat_map}
use Rattle.avf_report.specs.Texts.{line_of}
use Rattle.due_parity.specs.DueTexts.{row_line}
use Rattle.due_parity.proofs.text.push_rows.Given as goal

abbrev pub invariant-loop-row : goal.invariant-loop-row
invariant-loop-row l = string_bytes l.text ≡ string_bytes l.fn.text ++ flat_map (λ row. line_of (row_line row)) (take l.row-index l.rows)
