use Rattle.std.proofs.Common.{arith}
use Rattle.need_pass.proofs.MaskBits.{mask_up_to}
use Rattle.need_pass.proofs.masks.up_to.Goals as goal

pub returns-else-mask-eq0 : goal.returns-else-mask-eq0
returns-else-mask-eq0 c = mask_up_to c.args.mask (omega arith) c.ranges.mask.fits
