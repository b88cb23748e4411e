use Rattle.flush_view.proofs.Flush.AfterLog.{flush-after_log, takes-clocks}
use Rattle.flush_view.proofs.Flush.Outcome.{flush-outcome}
use Rattle.flush_view.proofs.Flush.Ranges.{flush-in_range}
use Rattle.flush_view.proofs.laws.flush_laws.Goals as goal

pub returns : goal.returns
returns c = record {
  outcome = flush-outcome;
  logs = flush-after_log;
  clocks = takes-clocks;
  ranges = λ s clocks log is below. flush-in_range s is clocks below log;
}
