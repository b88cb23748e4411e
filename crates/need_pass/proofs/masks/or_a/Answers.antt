use Rattle.std.proofs.Common.{◌≡◌, ◌⊎◌}
use Rattle.std.specs.Int.{bit_at, bit_not, w32}
use Rattle.std.specs.Prelude.{bit_or}
use Rattle.need_pass.proofs.MaskBits.{mask_where, mask_or, mask_not, mask_bits}
use Rattle.need_pass.proofs.masks.or_a.Goals as goal

pub returns : goal.returns
returns c =
    let n = bit_or c.args.a (bit_not w32 c.args.b) in
    mask_where c.args.mask n (λ k. (bit_at c.args.a k ≡ 1) ⊎ (bit_at c.args.b k ≡ 0)) (mask_or c.args.a (bit_not w32 c.args.b) (λ k. bit_at c.args.a k ≡ 1) (λ k. bit_at c.args.b k ≡ 0) (mask_bits c.args.a) (mask_not c.args.b c.ranges.b.fits))
