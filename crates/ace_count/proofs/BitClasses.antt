-- A structure's bit has one class in a cycle.
use Rattle.std.proofs.Common.{ℕ}
use Rattle.bit_field.specs.declared.places.Structure.{Structure}
use Rattle.ace_rules.specs.Notes.{Story, moment}
use Rattle.ace_rules.proofs.OneClass.{one_class}
use Rattle.ace_count.specs.RunCounts.{HasClass}
use Rattle.ace_rules.proofs.Tallies.{HasOne}

pub one_each : (story : Story) (s : Structure) (bit : ℕ) → HasOne (HasClass story s bit)
one_each story s bit t c d h k = one_class (moment story t) (record { structure = s; bit = bit }) c d h k
