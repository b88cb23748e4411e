use Rattle.rv_isa.proofs.WordsLaws.{law}
use Rattle.rv_isa.proofs.runs.words_law.Goals as goal

pub returns : goal.returns
returns c = law
