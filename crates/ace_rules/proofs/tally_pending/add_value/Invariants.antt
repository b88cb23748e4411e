use Rattle.std.proofs.Common.{◌+◌, ◌*◌}
use Rattle.bit_field.specs.declared.places.Structure.TheVariants.{Sb}
use Rattle.ace_law.specs.Moments.{Moment}
use Rattle.ace_rules.specs.Notes.{IsKnown}
use Rattle.ace_rules.specs.Tallies.{HasClass, IsAdded}
use Rattle.ace_rules.proofs.tally_pending.add_value.Given as goal

abbrev pub invariant-loop-lane : goal.invariant-loop-lane
invariant-loop-lane l = record {
  added : (a : Moment) → IsKnown a l.needs l.note l.quiet → IsAdded (λ k. HasClass a Sb (66 * l.slot + (34 + k))) (8 * l.lane) l.fn.row l.row;
}
