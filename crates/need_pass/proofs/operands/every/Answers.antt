use Rattle.need_pass.proofs.MaskBits.{mask_full}
use Rattle.need_pass.proofs.operands.every.Goals as goal

pub returns : goal.returns
returns c = mask_full
