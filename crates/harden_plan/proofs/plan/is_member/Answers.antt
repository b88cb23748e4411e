use Rattle.std.specs.Int.{bit_at}
use Rattle.ace_class.specs.Counts.{place_of}
use Rattle.harden_plan.specs.Plans.{is_member}
use Rattle.harden_plan.proofs.BestSets.{tested}
use Rattle.harden_plan.proofs.plan.is_member.Goals as goal

pub returns : goal.returns
unfolding is_member
returns c = tested c.bit_at.result (bit_at c.args.set (place_of c.args.s)) 1 (rw c.place.ensures.value at c.bit_at.ensures)
