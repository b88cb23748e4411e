use Rattle.std.proofs.Common.{◌∙◌, sym, arith}
use Rattle.class_map.proofs.Digits.{digit_more, digits_read}
use Rattle.class_map.proofs.spelling.worth.Goals as goal

pub loop-digit-preserved : goal.loop-digit-preserved
loop-digit-preserved c = record {
  within = omega (arith, c.min-number.ensures);
  worth =
      rw (c.min-number.ensures, c.from.ensures, c.saturating_sub.ensures)
      (digit_more c.loop-digit.number c.args.digits.now c.loop-digit.digit-index c.loop-digit-test.true ∙ c.loop-digit.invariant.worth);
}

pub returns-clause-value : goal.returns-clause-value
returns-clause-value c =
    sym (digits_read c.loop-digit.number c.args.digits.now c.loop-digit.digit-index c.loop-digit-test.false c.loop-digit.invariant.within)
    ∙ c.loop-digit.invariant.worth
