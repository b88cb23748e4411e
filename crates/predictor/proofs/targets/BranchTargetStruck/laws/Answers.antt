use Rattle.predictor.proofs.EntryLaws.{laws}
use Rattle.predictor.proofs.targets.BranchTargetStruck.laws.Goals as goal

pub returns : goal.returns
returns c = laws
