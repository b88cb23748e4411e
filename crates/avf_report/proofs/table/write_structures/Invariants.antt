use Rattle.std.proofs.Common.{◌≡◌, ◌++◌, take}
use Rattle.std.specs.List.{flat_map}
use Rattle.avf_report.specs.Tables as tables
use Rattle.avf_report.specs.Writers.{IsReady, written}
use Rattle.avf_report.proofs.table.write_structures.Given as goal

abbrev pub invariant-loop-s : goal.invariant-loop-s
invariant-loop-s l =
    IsReady l.writer
    × (written l.writer ≡ written l.fn.writer ++ flat_map (λ s. tables.row_of (tables.structure_row l.counts s)) (take l.s-index l.structures))
