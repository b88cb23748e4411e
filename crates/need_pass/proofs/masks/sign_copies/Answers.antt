use Rattle.need_pass.proofs.MaskBits.{mask_sign, mask_no_sign}
use Rattle.need_pass.proofs.masks.sign_copies.Goals as goal

pub returns-then-mask-amount : goal.returns-then-mask-amount
returns-then-mask-amount c = mask_sign c.args.mask c.args.amount c.ranges.mask.fits c.requires c.if-mask-amount.true

pub returns-else-mask-amount : goal.returns-else-mask-amount
returns-else-mask-amount c = mask_no_sign c.args.mask c.args.amount c.ranges.mask.fits c.if-mask-amount.false
