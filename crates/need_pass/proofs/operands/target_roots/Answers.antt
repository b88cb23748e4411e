use Rattle.std.proofs.Common.{◌≡◌, ◌%◌}
use Rattle.need_pass.proofs.MaskBits.{mask_odd, mask_even}
use Rattle.need_pass.proofs.operands.target_roots.Goals as goal

pub returns-then-immediate-eq1 : goal.returns-then-immediate-eq1
returns-then-immediate-eq1 c = mask_odd (c.args.immediate % 2 ≡ 1) c.if-immediate-eq1.true

pub returns-else-immediate-eq1 : goal.returns-else-immediate-eq1
returns-else-immediate-eq1 c = mask_even (c.args.immediate % 2 ≡ 1) c.if-immediate-eq1.false
