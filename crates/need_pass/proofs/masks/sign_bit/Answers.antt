use Rattle.std.proofs.Common.{arith}
use Rattle.std.proofs.lemmas.Nat.{one_shl}
use Rattle.need_pass.proofs.MaskBits.{mask_sign_bit, mask_no_sign_bit}
use Rattle.need_pass.proofs.masks.sign_bit.Goals as goal

pub returns-then-mask-sign-eq0 : goal.returns-then-mask-sign-eq0
returns-then-mask-sign-eq0 c = mask_no_sign_bit c.args.mask c.args.sign c.if-mask-sign-eq0.true

pub returns-else-mask-sign-eq0 : goal.returns-else-mask-sign-eq0
returns-else-mask-sign-eq0 c =
    rw (one_shl c.args.sign 32 (omega arith)) (mask_sign_bit c.args.mask c.args.sign c.ranges.mask.fits c.requires c.if-mask-sign-eq0.false)
