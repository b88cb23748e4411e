use Rattle.inst_buf.proofs.BufferLaws.{laws}
use Rattle.inst_buf.proofs.buffer.InstBufStruck.laws.Goals as goal

pub returns : goal.returns
returns c = laws
