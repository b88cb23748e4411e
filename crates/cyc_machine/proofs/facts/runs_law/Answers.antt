use Rattle.cyc_machine.proofs.RunsOn.{runs-law}
use Rattle.cyc_machine.proofs.facts.runs_law.Goals as goal

pub returns : goal.returns
returns c = runs-law
