use Rattle.std.proofs.Common.{◌≡◌, ◌+◌, ◌≤◌, length}
use Rattle.cyc_machine.specs.Run.{output_after}
use Rattle.flip_replay.proofs.Follows.{Follows}
use Rattle.flip_replay.proofs.replaying.run_to.Given as goal

abbrev pub invariant-loop-cycle : goal.invariant-loop-cycle
invariant-loop-cycle g l =
    Follows l.initial.machine l._cycle l.machine
    × (l.put ≡ length (output_after l._cycle l.initial.machine))
    × (l.put ≤ l._cycle)
    × (l.steps ≡ l.initial.steps + l._cycle)
