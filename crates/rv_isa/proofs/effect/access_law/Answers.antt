use Rattle.rv_isa.proofs.Accessed.{law}
use Rattle.rv_isa.proofs.effect.access_law.Goals as goal

pub returns : goal.returns
returns c = law
