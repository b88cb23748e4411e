use Rattle.std.proofs.Common.{arith}
use Rattle.std.proofs.lemmas.Bool.Decides.{nat_tests}
use Rattle.eval_mask.proofs.Doings.{alike_same, alike_written}
use Rattle.eval_mask.proofs.cases.is_doing_alike.Goals as goal

pub returns-then-same_action : goal.returns-then-same_action
returns-then-same_action c =
    alike_same c.args.needs.now c.args.arch.now c.args.case.now c.args.doing.now c.requires.own
    (c.same_action.ensures.0 c.if-same_action.true) (grind (arith, nat_tests))

pub returns-in-Some : goal.returns-in-Some
returns-in-Some c =
    let both = c.in-Some.ensures in
    alike_written c.args.needs.now c.args.arch.now c.args.case.now c.args.doing.now (both.0) _ _ c.same_word.result c.requires.own
    c.requires.need (grind (arith, nat_tests)) (both.1) c.same_word.ensures
