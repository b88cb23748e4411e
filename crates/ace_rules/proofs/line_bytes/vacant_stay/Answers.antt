use Rattle.std.proofs.Common.{true}
use Rattle.ace_class.specs.declared.class.Rule.TheVariants.{EmptyPlace}
use Rattle.ace_rules.proofs.ByteBits.{one-of}
use Rattle.ace_rules.proofs.PendingMarks.{all-set}
use Rattle.ace_rules.proofs.line_bytes.vacant_stay.Goals as goal

pub returns-clause-classes : goal.returns-clause-classes
returns-clause-classes c = λ j l. one-of EmptyPlace 255 j true (all-set j l)
