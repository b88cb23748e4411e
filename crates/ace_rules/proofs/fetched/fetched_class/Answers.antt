use Rattle.ace_rules.proofs.FetchedClasses.{fetched_class, slot-place-small}
use Rattle.ace_rules.proofs.fetched.fetched_class.Goals as goal

pub fetched_tests-requires-clause-place : goal.fetched_tests-requires-clause-place
fetched_tests-requires-clause-place c = slot-place-small _ c.field_at-field.result c.field_at-field.ensures

pub returns : goal.returns
returns c = λ a needs known masks.
    rw (c.first_rule.ensures, c.fetched_tests.ensures)
    (fetched_class a needs _ _ _ known masks c.args.bit c.field_at-field.result c.field_at-field.ensures c.requires)
