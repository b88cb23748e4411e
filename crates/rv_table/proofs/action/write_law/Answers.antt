use Rattle.rv_table.proofs.Writes.{law}
use Rattle.rv_table.proofs.action.write_law.Goals as goal

pub returns : goal.returns
returns c = law
