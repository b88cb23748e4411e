use Rattle.std.proofs.Common.{arith}
use Rattle.need_pass.proofs.Histories.{earliest_some, earliest_none}
use Rattle.need_pass.proofs.history.earliest.Goals as goal

pub returns-in-Some : goal.returns-in-Some
returns-in-Some c = let g = c.in-Some.ensures.item in earliest_some c.args.changes.now c.in-Some.change.now g.3.0 g.1

pub returns-in-None : goal.returns-in-None
returns-in-None c = let g = c.in-None.ensures.item in earliest_none c.args.changes.now (omega (arith, g))
