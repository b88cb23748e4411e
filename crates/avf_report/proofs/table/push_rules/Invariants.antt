use Rattle.std.proofs.Common.{◌≡◌, ◌++◌, [], map, take}
use Rattle.csv.specs.Records.{fields_of, partial_of}
use Rattle.avf_report.specs.Tables as tables
use Rattle.avf_report.proofs.table.push_rules.Given as goal

abbrev pub invariant-loop-rule : goal.invariant-loop-rule
invariant-loop-rule l =
    (fields_of l.row ≡ fields_of l.fn.row ++ map (tables.rule_field l.counts l.s) (take l.rule-index l.rules))
    × (partial_of l.row ≡ [])
