use Rattle.std.proofs.Common.{◌∙◌}
use Rattle.rv_table.proofs.Signed.{shift_signed-shr}
use Rattle.rv_table.proofs.arithmetic.signed_shift.Goals as goal

pub returns : goal.returns
returns c = c.cast_unsigned.ensures ∙ shift_signed-shr c.args.a c.args.amount c.ranges.a.fits c.requires _ c.cast_signed.ensures
