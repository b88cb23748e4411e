use Rattle.std.proofs.Common.{sym, ◌∙◌}
use Rattle.eval_mask.proofs.Masked.{masked_exactly}
use Rattle.eval_mask.proofs.cases.is_masked.Goals as goal

pub returns : goal.returns
returns c =
    let case = c.args.case.now in
    let arch = c.args.arch.now in
    λ l own.
    masked_exactly c.args.needs.now case.first_after arch case.oldest.rd case.oldest.value case.npc case.issued l
    (record { w = c.args.w.now; m = c.args.m.now; d = c.args.d.now }) case.own c.same_left.result own
    (sym (c.reads_clock.ensures arch c.args.w.now case.oldest.rd case.oldest.value case.issued) ∙ c.if-reads_clock.false)
    (rw c.completed-flipped.ensures at c.same_left.ensures)
