use Rattle.pipe_latch.proofs.ExecutedLaws.{laws}
use Rattle.pipe_latch.proofs.ex_mem.ExMemStruck.laws.Goals as goal

pub returns : goal.returns
returns c = laws
