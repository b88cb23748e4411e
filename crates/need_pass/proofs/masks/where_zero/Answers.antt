use Rattle.std.proofs.Common.{◌≡◌}
use Rattle.std.specs.Int.{bit_at, bit_not, w32}
use Rattle.need_pass.proofs.MaskBits.{mask_where, mask_not}
use Rattle.need_pass.proofs.masks.where_zero.Goals as goal

pub returns : goal.returns
returns c = mask_where c.args.mask (bit_not w32 c.args.other) (λ k. bit_at c.args.other k ≡ 0) (mask_not c.args.other c.ranges.other.fits)
