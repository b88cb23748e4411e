use Rattle.flush_view.proofs.Struck.States.{struck-laws}
use Rattle.flush_view.proofs.laws.struck_laws.Goals as goal

pub returns : goal.returns
returns c = struck-laws
