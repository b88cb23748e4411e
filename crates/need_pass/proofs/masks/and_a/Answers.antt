use Rattle.std.proofs.Common.{◌≡◌, ◌⊎◌}
use Rattle.std.specs.Int.{bit_at, bit_not, w32}
use Rattle.std.specs.Prelude.{bit_or}
use Rattle.need_pass.proofs.MaskBits.{mask_where, mask_or, mask_not, mask_bits}
use Rattle.need_pass.proofs.masks.and_a.Goals as goal

pub returns : goal.returns
returns c =
    let n = bit_or (bit_not w32 c.args.a) c.args.b in
    mask_where c.args.mask n (λ k. (bit_at c.args.a k ≡ 0) ⊎ (bit_at c.args.b k ≡ 1)) (mask_or (bit_not w32 c.args.a) c.args.b (λ k. bit_at c.args.a k ≡ 0) (λ k. bit_at c.args.b k ≡ 1) (mask_not c.args.a c.ranges.a.fits) (mask_bits c.args.b))
