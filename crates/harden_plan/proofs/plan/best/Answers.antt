use Rattle.harden_plan.proofs.BestSets.{best-first, best-on}
use Rattle.harden_plan.proofs.plan.best.Goals as goal

pub loop-set-init : goal.loop-set-init
loop-set-init c = rw c.plan_of-best.ensures (best-first c.args.counts.now c.args.bits)

pub loop-set-preserved : goal.loop-set-preserved
loop-set-preserved c =
    let next = rw c.plan_of.ensures at c.better-best.ensures in
    best-on c.args.counts.now c.args.bits c.loop-set.set c.loop-set.best c.better-best.result next c.loop-set.invariant
