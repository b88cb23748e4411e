use Rattle.due_parity.proofs.Runs.{each-obeys}
use Rattle.due_parity.proofs.laws.parity_law.Goals as goal

pub returns : goal.returns
returns c = each-obeys
