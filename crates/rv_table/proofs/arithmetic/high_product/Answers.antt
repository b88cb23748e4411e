use Rattle.std.proofs.Common.{◌∙◌, ap, ◌/◌, ◌^◌}
use Rattle.std.specs.Int.{cast_signed, cast_unsigned, w32}
use Rattle.rv_table.specs.Arithmetic.{alu}
use Rattle.rv_table.proofs.Signed.{product_bits, again}
use Rattle.rv_table.proofs.arithmetic.high_product.Goals as goal

pub returns : goal.returns
unfolding alu
returns c =
    ap (λ n. n / 2 ^ 32) (c.cast_unsigned.ensures ∙ product_bits c.args.a c.args.b c.ranges.a.fits c.ranges.b.fits _ _ (c.from.ensures ∙ ap (λ z. cast_signed w32 (cast_unsigned w32 z)) c.cast_signed.ensures ∙ again c.args.a c.ranges.a.fits) (c.from-2.ensures ∙ ap (λ z. cast_signed w32 (cast_unsigned w32 z)) c.cast_signed-2.ensures ∙ again c.args.b c.ranges.b.fits))
