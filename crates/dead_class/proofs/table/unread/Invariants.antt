use Rattle.std.proofs.Common.{◌≡◌}
use Rattle.std.specs.Prelude.{replicate}
use Rattle.dead_class.specs.declared.readers.Readers.TheVariants.{Nobody}
use Rattle.dead_class.proofs.table.unread.Given as goal

abbrev pub invariant-loop-r : goal.invariant-loop-r
invariant-loop-r l = l.registers.items ≡ replicate l._r Nobody
