use Rattle.std.proofs.Common.{◌-◌, ◌≤◌, ◌+◌, ◌*◌}
use Rattle.bit_field.specs.declared.places.Structure.TheVariants.{CData}
use Rattle.ace_count.specs.RunCounts.{HasClass}
use Rattle.ace_rules.specs.Tallies.{ArePairsAdded}
use Rattle.ace_count.proofs.bytes.add_byte.Given as goal

abbrev pub invariant-loop-cycle : goal.invariant-loop-cycle
invariant-loop-cycle l =
    record { within : l.cycle ≤ l.cycles; added : ArePairsAdded (λ k. HasClass l.a CData (8 * l.byte + k)) 8 l.cycle l.fn.row l.row }

abbrev pub decreases-loop-cycle : goal.decreases-loop-cycle
decreases-loop-cycle l = l.cycles - l.cycle
