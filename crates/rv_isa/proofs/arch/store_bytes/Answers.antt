use Rattle.std.proofs.Common.{arith, length-set}
use Rattle.rv_isa.proofs.Lists.{stored_more}
use Rattle.rv_isa.proofs.arch.store_bytes.Goals as goal

pub loop-k-preserved : goal.loop-k-preserved
loop-k-preserved c = (simp length-set c.loop-k.invariant.0, λ p. stored_more _ _ _ _ _ p (c.loop-k.invariant.1 p) (omega arith))
