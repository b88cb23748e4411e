use Rattle.std.proofs.Common.{◌≡◌, ◌+◌}
use Rattle.run_log.proofs.Keeping.{Kept}
use Rattle.run_log.proofs.recording.record_shaped.Given as goal

abbrev pub invariant-loop-cycle : goal.invariant-loop-cycle
invariant-loop-cycle g l =
    Kept l.image l.shape l.cycle l.machine l.journal × (l.steps ≡ l.initial.steps + l.cycle)
