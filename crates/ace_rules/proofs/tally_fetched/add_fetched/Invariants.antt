use Rattle.std.proofs.Common.{ℕ, ◌+◌, ◌*◌, ◌≤◌}
use Rattle.std.specs.Prelude.{slice_index}
use Rattle.bit_field.specs.declared.places.Structure.TheVariants.{Ib}
use Rattle.need_pass.specs.Tables.{Needs}
use Rattle.ace_law.specs.Moments.{Moment}
use Rattle.ace_rules.specs.Notes.{AreWordMasks, IsKnown}
use Rattle.ace_rules.specs.Tallies.{HasClass, IsAdded}
use Rattle.ace_rules.proofs.tally_fetched.add_fetched.Given as goal

abbrev pub invariant-loop-slot : goal.invariant-loop-slot
invariant-loop-slot l = record {
  most : (n : ℕ) → slice_index l.row n ≤ slice_index l.fn.row n + 64 * l.slot;
  added : (a : Moment) (needs : Needs) → IsKnown a needs l.note l.quiet → AreWordMasks a needs l.words
      → IsAdded (HasClass a Ib) (64 * l.slot) l.fn.row l.row;
}
