use Rattle.std.proofs.Common.{sym, ◌∙◌}
use Rattle.eval_mask.proofs.Doings.{own_left}
use Rattle.eval_mask.proofs.Fields.{executed_inside}
use Rattle.eval_mask.proofs.Masked.{executed_exactly}
use Rattle.eval_mask.proofs.Moved.{kept_exactly, kept_never}
use Rattle.eval_mask.proofs.UnreadBits.{unread_exactly}
use Rattle.eval_mask.proofs.WrittenValues.{below_asked}
use Rattle.eval_mask.proofs.latches.executed_bit.Goals as goal

pub returns-then-same_action : goal.returns-then-same_action
returns-then-same_action c =
    executed_exactly c.args.needs.now c.args.arch.now c.args.w.now c.args.m.now c.args.d.now c.args.case.now c.args.k
    _ c.requires.case (executed_inside c.args.k c.requires.place)
    (rw c.flip.ensures at
    (unread_exactly c.args.needs.now c.args.arch.now c.args.w.now c.args.m.now c.flip.new.self c.args.d.now c.args.case.now c.requires.case
    (sym c.action-action.ensures.action ∙ c.same_action.ensures.0 c.if-same_action.true ∙ c.requires.case.executed)))

pub returns-then-not-is_kept : goal.returns-then-not-is_kept
returns-then-not-is_kept c =
    executed_exactly c.args.needs.now c.args.arch.now c.args.w.now c.args.m.now c.args.d.now c.args.case.now c.args.k
    c.is_masked.result c.requires.case (executed_inside c.args.k c.requires.place)
    (rw c.flip.ensures at (c.is_masked.ensures (record { w = c.args.w.now; m = c.args.m.now; d = c.args.d.now }) c.requires.case.outcome))

pub returns-then-case : goal.returns-then-case
returns-then-case c =
    executed_exactly c.args.needs.now c.args.arch.now c.args.w.now c.args.m.now c.args.d.now c.args.case.now c.args.k
    _ c.requires.case (executed_inside c.args.k c.requires.place)
    (rw c.flip.ensures at
    (kept_never c.args.needs.now c.args.arch.now c.args.w.now c.args.m.now c.args.d.now c.args.case.now c.flip.new.self c.action_change-below.result
    c.requires.case (rw c.action-action.ensures.action at c.action_change-below.ensures) (c.is_kept.ensures.reached c.if-not-is_kept.false)
    (c.is_kept.ensures.goes_on c.if-not-is_kept.false) (c.is_kept.ensures.operands c.if-not-is_kept.false) c.if-case.true))

pub returns : goal.returns
returns c =
    executed_exactly c.args.needs.now c.args.arch.now c.args.w.now c.args.m.now c.args.d.now c.args.case.now c.args.k
    c.same_left.result c.requires.case (executed_inside c.args.k c.requires.place)
    (rw c.flip.ensures at
    (kept_exactly c.args.needs.now c.args.arch.now c.args.w.now c.args.m.now c.args.d.now c.args.case.now c.flip.new.self c.action_change-below.result
    c.same_left.result c.requires.case (rw c.action-action.ensures.action at c.action_change-below.ensures) (c.is_kept.ensures.reached c.if-not-is_kept.false)
    (c.is_kept.ensures.goes_on c.if-not-is_kept.false) (c.is_kept.ensures.operands c.if-not-is_kept.false) c.if-case.false
    (rw c.left_with.ensures at c.same_left.ensures)))

pub left_with-requires : goal.left_with-requires
left_with-requires c =
    record {
      own =
          own_left c.args.needs.now c.args.arch.now c.args.w.now c.args.m.now c.args.d.now c.args.case.now c.requires.case
          (c.is_kept.ensures.reached c.if-not-is_kept.false);
    }

pub returns-in-Some : goal.returns-in-Some
returns-in-Some c =
    executed_exactly c.args.needs.now c.args.arch.now c.args.w.now c.args.m.now c.args.d.now c.args.case.now c.args.k
    c.in-Some.alike c.requires.case (executed_inside c.args.k c.requires.place)
    (rw c.flip.ensures at
    (below_asked c.args.needs.now c.args.arch.now c.args.w.now c.args.m.now c.flip.new.self c.args.d.now c.args.case.now c.action_change-below.result
    c.action_change-below.result.write.value c.in-Some.alike c.requires.case (rw c.action-action.ensures.action at c.action_change-below.ensures)
    c.in-Some.ensures.value c.in-Some.ensures.unread c.in-Some.ensures.alike))
