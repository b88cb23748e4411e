use Rattle.std.proofs.Common.{sym, ◌∙◌}
use Rattle.eval_mask.proofs.WrittenValues.{below_free, below_given}
use Rattle.eval_mask.proofs.written.is_below_alike.Goals as goal

pub returns-then-not-is_taken : goal.returns-then-not-is_taken
returns-then-not-is_taken c =
    below_free c.args.needs.now c.args.arch.now c.args.w.now c.args.m.now c.args.d.now c.args.case.now c.args.value c.same_values.result c.requires.case
    (sym c.is_taken.ensures ∙ c.if-not-is_taken.true) c.same_values.ensures

pub returns-in-Some : goal.returns-in-Some
returns-in-Some c =
    below_given c.args.needs.now c.args.arch.now c.args.w.now c.args.m.now c.args.d.now c.args.case.now c.args.value c.in-Some.above c.same_values-in-Some.result
    c.requires.case (sym c.is_taken.ensures ∙ c.if-not-is_taken.false) (sym c.value_given.ensures ∙ c.in-Some.is) c.same_values-in-Some.ensures
