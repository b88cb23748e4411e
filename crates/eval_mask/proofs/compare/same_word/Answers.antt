use Rattle.eval_mask.proofs.Differences.{same_needed}
use Rattle.eval_mask.proofs.compare.same_word.Goals as goal

pub returns : goal.returns
returns c = same_needed 32 c.args.mask c.args.a c.args.b c.ranges.mask.fits
