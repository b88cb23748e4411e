use Rattle.run_record.proofs.Verdicts.{one_verdict}
use Rattle.run_record.proofs.verdict.verdict_law.Goals as goal

pub returns : goal.returns
returns c = one_verdict
