use Rattle.pipe_latch.proofs.DecodedLaws.{laws}
use Rattle.pipe_latch.proofs.id_ex.IdExStruck.laws.Goals as goal

pub returns : goal.returns
returns c = laws
