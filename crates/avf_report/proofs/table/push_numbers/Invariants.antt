use Rattle.std.proofs.Common.{◌≡◌, ◌++◌, [], decimal, map, take}
use Rattle.csv.specs.Records.{fields_of, partial_of}
use Rattle.avf_report.proofs.table.push_numbers.Given as goal

abbrev pub invariant-loop-number : goal.invariant-loop-number
invariant-loop-number l =
    (fields_of l.row ≡ fields_of l.fn.row ++ map decimal (take l.number-index l.numbers))
    × (partial_of l.row ≡ [])
