use Rattle.std.proofs.Common.{◌≡◌, take}
use Rattle.std.specs.Prelude.{count_by}
use Rattle.dead_class.specs.Classes.{is_class}
use Rattle.dead_class.proofs.table.DeadTable.count.Given as goal

abbrev pub invariant-loop-other : goal.invariant-loop-other
invariant-loop-other l = l.count ≡ count_by (is_class l.class) (take l.other-index l.other-items)
