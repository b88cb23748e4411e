use Rattle.std.proofs.Common.{◌-◌, ◌*◌}
use Rattle.bit_field.specs.declared.places.Structure.TheVariants.{Rf}
use Rattle.ace_law.specs.Moments.{Moment}
use Rattle.ace_rules.specs.Notes.{IsKnown}
use Rattle.ace_rules.specs.Tallies.{HasClass, IsAdded}
use Rattle.ace_rules.proofs.tally_registers.add_registers.Given as goal

abbrev pub invariant-loop-r : goal.invariant-loop-r
invariant-loop-r l = record {
  added : (a : Moment) → IsKnown a l.needs l.note l.quiet → IsAdded (HasClass a Rf) (32 * (l.r - 1)) l.fn.row l.row;
}
