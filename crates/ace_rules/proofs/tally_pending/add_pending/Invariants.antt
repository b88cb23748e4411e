use Rattle.std.proofs.Common.{◌≡◌, ◌*◌}
use Rattle.bit_field.specs.declared.places.Structure.TheVariants.{Sb}
use Rattle.ace_law.specs.Moments.{Moment}
use Rattle.ace_rules.specs.Notes.{IsKnown}
use Rattle.ace_rules.specs.Tallies.{HasClass, IsAdded}
use Rattle.ace_rules.proofs.tally_pending.add_pending.Given as goal

abbrev pub invariant-loop-slot : goal.invariant-loop-slot
invariant-loop-slot l = record {
  added : (a : Moment) → IsKnown a l.needs l.note l.quiet → l.image ≡ a.r.image → IsAdded (HasClass a Sb) (66 * l.slot) l.fn.row l.row;
}
