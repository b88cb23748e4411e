use Rattle.std.proofs.Common.{◌≡◌, arith, length}
use Rattle.flip_replay.proofs.Flips.{striking-all, striking-on}
use Rattle.flip_replay.proofs.outlasting.strike.Goals as goal

pub loop-place-preserved : goal.loop-place-preserved
loop-place-preserved c =
    striking-on c.args.machine.now c.args.places.now c.loop-place.place-index c.loop-place.machine c.flip.new.self _ (omega arith) c.flip.ensures
    c.loop-place.invariant

pub returns-clause-state : goal.returns-clause-state
returns-clause-state c =
    let n : c.loop-place.place-index ≡ length c.args.places.now = omega arith in
    striking-all c.args.machine.now c.args.places.now c.loop-place.place-index c.loop-place.machine n c.loop-place.invariant
