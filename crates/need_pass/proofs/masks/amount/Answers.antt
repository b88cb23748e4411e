use Rattle.std.proofs.Common.{◌-◌, ◌^◌, ◌<◌, arith}
use Rattle.need_pass.proofs.MaskBits.{mask_any, mask_low}
use Rattle.need_pass.proofs.masks.amount.Goals as goal

pub returns-else-mask-eq0 : goal.returns-else-mask-eq0
returns-else-mask-eq0 c = mask_any c.args.mask (2 ^ 5 - 1) (λ k. k < 5) (omega arith) c.ranges.mask.fits (mask_low 5)
