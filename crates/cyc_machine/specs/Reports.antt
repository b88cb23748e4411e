-- One cycle as it is seen from outside: the next state and the report.
use Rattle.std.specs.Prelude.{◌≡◌}
use Rattle.cyc_machine.specs.declared.report.CycleReport.{CycleReport}
use Rattle.cyc_machine.specs.Cycle.{cycle, end_in, event_in, fate, issued_from, put_in, retires}
use Rattle.cyc_machine.specs.State.{State}

-- one cycle leads from `old` to `new` and is reported so
pub record IsCycle (old new : State) (report : CycleReport) : Type 0 where
  pub state : new ≡ cycle old
  pub put : report.put ≡ put_in old
  pub issued : report.issued ≡ issued_from (fate old) old.d
  pub retired : report.retired ≡ retires old
  pub event : report.event ≡ event_in old
  pub end : report.end ≡ end_in old

-- the cycles from two states have the same report
pub record SameReport (s u : State) : Type 0 where
  pub put : put_in s ≡ put_in u
  pub issued : issued_from (fate s) s.d ≡ issued_from (fate u) u.d
  pub retired : retires s ≡ retires u
  pub event : event_in s ≡ event_in u
  pub end : end_in s ≡ end_in u
