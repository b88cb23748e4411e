use Rattle.ace_rules.proofs.LatchClasses.{result_class}
use Rattle.ace_rules.proofs.latches.result_class.Goals as goal

pub returns : goal.returns
returns c = λ a needs known.
    rw (c.first_rule.ensures, c.result_tests.ensures)
    (result_class a needs _ _ known c.args.bit c.field_at-field.result c.requires c.field_at-field.ensures)
