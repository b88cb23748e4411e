use Rattle.std.proofs.Common.{◌≡◌}
use Rattle.ace_rules.specs.Asked.{written_from}
use Rattle.ace_rules.proofs.pending.is_pending_from.Given as goal

abbrev pub invariant-loop-slot : goal.invariant-loop-slot
invariant-loop-slot l = record { same : written_from l.stores l.first l.byte ≡ written_from l.stores l.slot l.byte }
