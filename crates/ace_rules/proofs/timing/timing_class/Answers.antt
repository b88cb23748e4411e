use Rattle.ace_rules.proofs.TimingClasses.{timing_class}
use Rattle.ace_rules.proofs.timing.timing_class.Goals as goal

pub returns : goal.returns
returns c = λ a s k silent of. rw (c.first_rule.ensures, c.timing_tests.ensures) (timing_class a c.args.quiet s k silent of)
