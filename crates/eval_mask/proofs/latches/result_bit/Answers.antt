use Rattle.eval_mask.proofs.FreeValues.{needed_bit}
use Rattle.eval_mask.proofs.latches.result_bit.Goals as goal

pub returns-then-is_needed_result : goal.returns-then-is_needed_result
returns-then-is_needed_result c =
    needed_bit c.args.needs.now c.args.arch.now c.args.w.now c.args.m.now c.args.d.now c.args.case.now c.args.k c.requires.case c.requires.place
    (c.is_needed_result.ensures.writes c.if-is_needed_result.true) (c.is_needed_result.ensures.unread c.if-is_needed_result.true)
    (c.is_needed_result.ensures.needed c.if-is_needed_result.true)
