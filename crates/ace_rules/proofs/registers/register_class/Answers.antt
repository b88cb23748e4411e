use Rattle.ace_rules.proofs.RegisterClasses.{decoded_counted, register_class}
use Rattle.ace_rules.proofs.registers.register_class.Goals as goal

pub register_tests-requires-clause-instruction : goal.register_tests-requires-clause-instruction
register_tests-requires-clause-instruction c = decoded_counted _ _ _ c.requires.some

pub returns : goal.returns
returns c = λ a known. rw (c.first_rule.ensures, c.register_tests.ensures) (register_class _ _ _ _ c.requires.bit a known)
