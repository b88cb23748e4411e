use Rattle.std.proofs.Common.{◌≤◌, subst}
use Rattle.run_record.specs.Run.{RecordedRun}
use Rattle.run_record.specs.Times.{IsTimed}
use Rattle.run_record.proofs.Few.{record_few}
use Rattle.run_record.proofs.Timed.{record_timed}
use Rattle.run_record.proofs.recorded.Recorded.is_record.Goals as goal

pub returns-clause-timed : goal.returns-clause-timed
returns-clause-timed c = subst IsTimed c.self.view_is (record_timed _ c.self.invariant.0)

pub returns-clause-few : goal.returns-clause-few
returns-clause-few c = subst (λ (r : RecordedRun). r.instructions ≤ r.cycles) c.self.view_is (record_few _ c.self.invariant.0)
