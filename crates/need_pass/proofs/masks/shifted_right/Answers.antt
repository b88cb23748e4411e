use Rattle.need_pass.proofs.MaskBits.{mask_right}
use Rattle.need_pass.proofs.masks.shifted_right.Goals as goal

pub returns : goal.returns
returns c = mask_right c.args.mask c.args.amount
