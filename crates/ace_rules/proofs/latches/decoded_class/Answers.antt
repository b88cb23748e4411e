use Rattle.ace_rules.proofs.DecodedClasses.{decoded_class, place-small}
use Rattle.ace_rules.proofs.latches.decoded_class.Goals as goal

pub decoded_tests-requires-clause-place : goal.decoded_tests-requires-clause-place
decoded_tests-requires-clause-place c = place-small c.args.bit c.field_at-field.result c.field_at-field.ensures

pub returns : goal.returns
returns c = λ a needs known.
    rw (c.first_rule.ensures, c.decoded_tests.ensures)
    (decoded_class a needs _ _ known c.args.bit c.field_at-field.result c.field_at-field.ensures c.requires)
