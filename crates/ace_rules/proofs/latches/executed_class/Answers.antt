use Rattle.ace_rules.proofs.LatchClasses.{executed_class}
use Rattle.ace_rules.proofs.latches.executed_class.Goals as goal

pub returns : goal.returns
returns c = λ a needs known.
    rw (c.first_rule.ensures, c.executed_tests.ensures)
    (executed_class a needs _ _ known c.args.bit c.field_at-field.result c.requires c.field_at-field.ensures)
