use Rattle.harden_plan.specs.Plans.{IsBestBelow}
use Rattle.harden_plan.proofs.plan.best.Given as goal

abbrev pub invariant-loop-set : goal.invariant-loop-set
invariant-loop-set l = IsBestBelow l.counts l.bits l.set l.best
