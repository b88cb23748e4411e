use Rattle.std.proofs.Common.{◌≡◌, ◌+◌, ◌≤◌}
use Rattle.cyc_machine.specs.Run.{retired_after}
use Rattle.flip_replay.proofs.Follows.{Follows}
use Rattle.flip_replay.proofs.outlasting.outlast.Given as goal

abbrev pub invariant-loop-made : goal.invariant-loop-made
invariant-loop-made g l =
    Follows l.initial.machine l.made l.machine
    × (l.completed ≡ retired_after l.made l.initial.machine)
    × (l.completed ≤ l.made)
    × (l.steps ≡ l.initial.steps + l.made)
