use Rattle.slot_history.proofs.Runs.{held-before-law}
use Rattle.slot_history.proofs.laws.held_law.Goals as goal

pub returns : goal.returns
returns c = held-before-law
