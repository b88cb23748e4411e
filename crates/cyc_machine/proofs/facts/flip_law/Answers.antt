use Rattle.cyc_machine.proofs.FlipLaws.{flips-back, flips-no-other, flips-that-bit}
use Rattle.cyc_machine.proofs.facts.flip_law.Goals as goal

pub returns-clause-flips : goal.returns-clause-flips
returns-clause-flips c = flips-that-bit

pub returns-clause-others : goal.returns-clause-others
returns-clause-others c = flips-no-other

pub returns-clause-restores : goal.returns-clause-restores
returns-clause-restores c = flips-back
