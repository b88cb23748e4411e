use Rattle.need_pass.proofs.MaskBits.{mask_left}
use Rattle.need_pass.proofs.masks.shifted_left.Goals as goal

pub returns : goal.returns
returns c = mask_left c.args.mask c.args.amount c.ranges.mask.fits
