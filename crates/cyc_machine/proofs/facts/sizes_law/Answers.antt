use Rattle.cyc_machine.proofs.Sizes.Words.{sizes-law}
use Rattle.cyc_machine.proofs.facts.sizes_law.Goals as goal

pub returns : goal.returns
returns c = sizes-law
