use Rattle.std.proofs.Common.{◌∙◌, ap, ◌/◌, ◌^◌}
use Rattle.std.specs.Int.{cast_signed, cast_unsigned, w32}
use Rattle.rv_table.specs.Arithmetic.{alu}
use Rattle.rv_table.proofs.Signed.{mixed_bits, mixed_in_range, again}
use Rattle.rv_table.proofs.arithmetic.high_mixed_product.Goals as goal

pub overflow_mul-product : goal.overflow_mul-product
overflow_mul-product c =
    mixed_in_range c.args.a c.args.b c.ranges.a.fits c.ranges.b.fits _ _ (c.from.ensures ∙ ap (λ z. cast_signed w32 (cast_unsigned w32 z)) c.cast_signed.ensures ∙ again c.args.a c.ranges.a.fits) c.from-2.ensures

pub returns : goal.returns
unfolding alu
returns c =
    ap (λ n. n / 2 ^ 32) (c.cast_unsigned.ensures ∙ mixed_bits c.args.a c.args.b c.ranges.a.fits c.ranges.b.fits _ _ (c.from.ensures ∙ ap (λ z. cast_signed w32 (cast_unsigned w32 z)) c.cast_signed.ensures ∙ again c.args.a c.ranges.a.fits) c.from-2.ensures)
