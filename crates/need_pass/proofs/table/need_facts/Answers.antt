use Rattle.need_pass.proofs.Facts.{facts}
use Rattle.need_pass.proofs.table.need_facts.Goals as goal

pub returns : goal.returns
returns c = facts
