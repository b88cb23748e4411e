use Rattle.std.proofs.Common.{◌≡◌, ◌+◌}
use Rattle.flip_replay.proofs.Compared.{Compared}
use Rattle.flip_replay.proofs.replaying.replay.Given as goal

abbrev pub invariant-loop-now : goal.invariant-loop-now
invariant-loop-now g l =
    Compared l.recorded l.cycle l.initial.machine l.now l.machine l.comparison.matched × (l.steps ≡ l.fn.steps + l.now)
