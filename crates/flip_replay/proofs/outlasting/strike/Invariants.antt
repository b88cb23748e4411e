use Rattle.flip_replay.proofs.Flips.{Striking}
use Rattle.flip_replay.proofs.outlasting.strike.Given as goal

abbrev pub invariant-loop-place : goal.invariant-loop-place
invariant-loop-place l = Striking l.initial.machine l.places l.place-index l.machine
