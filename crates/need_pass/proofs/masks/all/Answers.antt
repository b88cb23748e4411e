use Rattle.std.proofs.Common.{◌-◌, ◌^◌, arith}
use Rattle.need_pass.proofs.MaskBits.{mask_any, mask_full}
use Rattle.need_pass.proofs.masks.all.Goals as goal

pub returns-else-mask-eq0 : goal.returns-else-mask-eq0
returns-else-mask-eq0 c = mask_any c.args.mask (2 ^ 32 - 1) (λ k. Unit {0}) (omega arith) c.ranges.mask.fits mask_full
