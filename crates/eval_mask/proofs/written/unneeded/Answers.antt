use Rattle.eval_mask.proofs.FreeValues.{other_bits}
use Rattle.eval_mask.proofs.written.unneeded.Goals as goal

pub returns-else-reads_clock-clause-bits : goal.returns-else-reads_clock-clause-bits
returns-else-reads_clock-clause-bits c = λ unread. other_bits c.args.needed (c.ranges.needed.fits)
