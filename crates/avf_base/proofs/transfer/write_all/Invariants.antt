use Rattle.std.proofs.Common.{length, ◌-◌, ◌≤◌, take}
use Rattle.avf_base.specs.Moves.{Grows}
use Rattle.avf_base.proofs.transfer.write_all.Given as goal

abbrev pub invariant-loop-at : goal.invariant-loop-at
invariant-loop-at g l =
    (l.at ≤ length l.text) × (g.K.Sink.faults l.initial.sink ≤ g.K.Sink.faults l.sink)
    × Grows (g.K.Sink.taken l.initial.sink) (g.K.Sink.taken l.sink) (take l.at l.text)

abbrev pub decreases-loop-at : goal.decreases-loop-at
decreases-loop-at g l = length l.text - l.at
