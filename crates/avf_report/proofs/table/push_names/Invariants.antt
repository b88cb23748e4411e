use Rattle.std.proofs.Common.{◌≡◌, ◌++◌, [], map, take}
use Rattle.csv.specs.Records.{fields_of, partial_of}
use Rattle.avf_report.specs.Texts.{rule_name}
use Rattle.avf_report.proofs.table.push_names.Given as goal

abbrev pub invariant-loop-rule : goal.invariant-loop-rule
invariant-loop-rule l =
    (fields_of l.row ≡ fields_of l.fn.row ++ map rule_name (take l.rule-index l.rules)) × (partial_of l.row ≡ [])
