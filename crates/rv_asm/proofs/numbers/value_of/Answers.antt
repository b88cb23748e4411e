use Rattle.std.proofs.Common.{◌∙◌, sym, arith}
use Rattle.rv_asm.proofs.Digits.{digit_more, digits_read}
use Rattle.rv_asm.proofs.numbers.value_of.Goals as goal

pub loop-digit-preserved : goal.loop-digit-preserved
loop-digit-preserved c = record {
  within = omega (arith, c.min-number.ensures);
  worth =
      rw (c.min-number.ensures, c.digit_value.ensures.value)
      (digit_more c.args.base c.loop-digit.number c.args.digits.now c.loop-digit.digit-index c.requires.least c.loop-digit-test.true
      ∙ c.loop-digit.invariant.worth);
}

pub returns-clause-value : goal.returns-clause-value
returns-clause-value c =
    sym (digits_read c.args.base c.loop-digit.number c.args.digits.now c.loop-digit.digit-index c.loop-digit-test.false c.loop-digit.invariant.within)
    ∙ c.loop-digit.invariant.worth
