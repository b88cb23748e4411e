use Rattle.inst_buf.proofs.SlotLaws.{laws}
use Rattle.inst_buf.proofs.slots.SlotStruck.laws.Goals as goal

pub returns : goal.returns
returns c = laws
