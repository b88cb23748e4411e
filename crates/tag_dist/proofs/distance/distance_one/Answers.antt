use Rattle.std.proofs.Common.{arith}
use Rattle.tag_dist.proofs.Distances.{distance_below}
use Rattle.tag_dist.proofs.distance.distance_one.Goals as goal

pub overflow_mul-result : goal.overflow_mul-result
overflow_mul-result c = rw c.from-sets.ensures
    (omega (arith, distance_below c.args.shape.now c.args.line c.args.bit c.requires.shape c.requires.line c.requires.bit))

pub overflow_add-result : goal.overflow_add-result
overflow_add-result c = rw c.from-sets.ensures
    (omega (arith, distance_below c.args.shape.now c.args.line c.args.bit c.requires.shape c.requires.line c.requires.bit))
