use Rattle.std.proofs.Common.{◌≡◌}
use Rattle.std.specs.Int.{bit_at}
use Rattle.need_pass.proofs.MaskBits.{mask_where, mask_bits}
use Rattle.need_pass.proofs.masks.where_one.Goals as goal

pub returns : goal.returns
returns c = mask_where c.args.mask c.args.other (λ k. bit_at c.args.other k ≡ 1) (mask_bits c.args.other)
