-- Un-ACE is harmless: where a rule holds, the run with the bit flipped has the recorded output and end, within the bound.
use Rattle.std.specs.Prelude.{◌<◌}
use Rattle.bit_field.specs.Shapes.{IsPlaceIn}
use Rattle.bit_field.specs.declared.places.Place.{Place}
use Rattle.ace_class.specs.declared.class.Rule.{Rule}
use Rattle.need_pass.specs.Tables.{Needs}
use Rattle.run_record.specs.Verdict.{HasSame, flipped}
use Rattle.ace_law.specs.Moments.{IsTold, Moment}
use Rattle.ace_law.specs.Classes.{Holds}

abbrev pub UnAceIsHarmless : Type 0
UnAceIsHarmless =
    (a : Moment) (needs : Needs) (p : Place) (rule : Rule) → IsTold a.r a.run needs → a.t < a.r.cycles → IsPlaceIn a.r.shape p
    → Holds rule a p → HasSame a.r a.t (flipped a.r a.t p)
