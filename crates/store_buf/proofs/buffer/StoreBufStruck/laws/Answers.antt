use Rattle.store_buf.proofs.BufferLaws.{laws}
use Rattle.store_buf.proofs.buffer.StoreBufStruck.laws.Goals as goal

pub returns : goal.returns
returns c = laws
