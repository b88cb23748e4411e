use Rattle.predictor.proofs.TargetLaws.{laws}
use Rattle.predictor.proofs.targets.TargetsStruck.laws.Goals as goal

pub returns : goal.returns
returns c = laws
