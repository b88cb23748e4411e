use Rattle.std.proofs.Common.{refl}
use Rattle.eval_mask.proofs.Fields.{written_inside}
use Rattle.eval_mask.proofs.Masked.{written_exactly}
use Rattle.eval_mask.proofs.Moved.{first_exactly, first_never}
use Rattle.eval_mask.proofs.WrittenValues.{first_asked}
use Rattle.eval_mask.proofs.latches.written_bit.Goals as goal

pub returns-then-not-is_unmoved : goal.returns-then-not-is_unmoved
returns-then-not-is_unmoved c =
    written_exactly c.args.needs.now c.args.arch.now c.args.w.now c.args.m.now c.args.d.now c.args.case.now c.args.k
    c.is_masked.result c.requires.case (written_inside c.args.k c.requires.place)
    (rw c.flip.ensures at (c.is_masked.ensures (record { w = c.args.w.now; m = c.args.m.now; d = c.args.d.now }) c.requires.case.outcome))

pub returns-then-case : goal.returns-then-case
returns-then-case c =
    written_exactly c.args.needs.now c.args.arch.now c.args.w.now c.args.m.now c.args.d.now c.args.case.now c.args.k
    _ c.requires.case (written_inside c.args.k c.requires.place)
    (rw c.flip.ensures at
    (first_never c.args.needs.now c.args.arch.now c.args.w.now c.args.m.now c.args.d.now c.args.case.now c.flip.new.self c.requires.case c.if-case.true))

pub returns : goal.returns
returns c =
    written_exactly c.args.needs.now c.args.arch.now c.args.w.now c.args.m.now c.args.d.now c.args.case.now c.args.k
    c.same_left.result c.requires.case (written_inside c.args.k c.requires.place)
    (rw c.flip.ensures at
    (first_exactly c.args.needs.now c.args.arch.now c.args.w.now c.args.m.now c.args.d.now c.args.case.now c.flip.new.self
    (record c.args.case.now.own { first = c.write_held-first.result })
    c.same_left.result c.requires.case (c.is_unmoved.ensures c.if-not-is_unmoved.false) c.if-case.false (rw c.write_held-first.ensures refl) c.same_left.ensures))

pub returns-in-Some : goal.returns-in-Some
returns-in-Some c =
    written_exactly c.args.needs.now c.args.arch.now c.args.w.now c.args.m.now c.args.d.now c.args.case.now c.args.k
    c.in-Some.alike c.requires.case (written_inside c.args.k c.requires.place)
    (rw c.flip.ensures at
    (first_asked c.args.needs.now c.args.arch.now c.args.w.now c.flip.new.self c.args.m.now c.args.d.now c.args.case.now c.in-Some.alike
    c.requires.case c.in-Some.ensures.unread c.in-Some.ensures.alike))
