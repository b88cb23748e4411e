use Rattle.pipe_latch.proofs.ResultLaws.{laws}
use Rattle.pipe_latch.proofs.mem_wb.MemWbStruck.laws.Goals as goal

pub returns : goal.returns
returns c = laws
