use Rattle.predictor.proofs.HistoryLaws.{laws}
use Rattle.predictor.proofs.history.HistoryStruck.laws.Goals as goal

pub returns : goal.returns
returns c = laws
