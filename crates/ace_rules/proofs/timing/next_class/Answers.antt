use Rattle.ace_rules.proofs.TimingClasses.{next_class}
use Rattle.ace_rules.proofs.timing.next_class.Goals as goal

pub returns : goal.returns
returns c = λ a k. rw (c.first_rule.ensures, c.no_rule.ensures) (next_class a k)
