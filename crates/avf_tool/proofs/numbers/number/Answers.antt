use Rattle.std.proofs.Common.{◌∙◌}
use Rattle.avf_tool.proofs.Numerals.{found, missed, plain_at, plus_at}
use Rattle.avf_tool.proofs.numbers.number.Goals as goal

pub returns-in-Ok-clause-is : goal.returns-in-Ok-clause-is
returns-in-Ok-clause-is c = c.within.ensures.is ∙ found c.args.least c.args.most c.in-Ok.n c.args.text.now c.in-Ok.ensures.value.0
    (plus_at _ _ c.as_bytes-bytes.ensures.value c.if-bytes-eq43.false)
    (plain_at _ _ _ c.as_bytes-bytes.ensures.value c.is_plain.ensures c.if-not-is_plain.false)

pub returns-in-Err-clause-is : goal.returns-in-Err-clause-is
returns-in-Err-clause-is c =
    missed c.args.least c.args.most c.args.text.now c.in-Err.ensures.value.0 (plus_at _ _ c.as_bytes-bytes.ensures.value c.if-bytes-eq43.false)
    c.ranges.most.fits
