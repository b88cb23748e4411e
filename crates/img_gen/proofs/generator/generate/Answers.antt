use Rattle.std.proofs.Common.{◌≤◌, arith}
use Rattle.img_gen.proofs.Accepted.{accepted}
use Rattle.img_gen.proofs.Counted.{runs_four_rounds}
use Rattle.img_gen.proofs.generator.generate.Goals as goal

pub returns-clause-accepted : goal.returns-clause-accepted
returns-clause-accepted c = let small : c.args.size ≤ 4096 = omega arith in accepted c.args.number c.args.size small

pub returns-clause-runs : goal.returns-clause-runs
returns-clause-runs c = let small : c.args.size ≤ 4096 = omega arith in runs_four_rounds c.args.number c.args.size small
