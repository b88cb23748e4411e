use Rattle.std.proofs.Common.{◌≡◌, ◌+◌}
use Rattle.due_parity.proofs.Watching.{IsWatching}
use Rattle.due_parity.proofs.table.watch_run.Given as goal

abbrev pub invariant-loop-t : goal.invariant-loop-t
invariant-loop-t g l = IsWatching l.recorded l.t l.machine l.registers.items l.bytes.items × (l.steps ≡ l.initial.steps + l.t)
