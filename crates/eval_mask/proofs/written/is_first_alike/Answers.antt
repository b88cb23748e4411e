use Rattle.std.proofs.Common.{sym, ◌∙◌, ap, inl, inr}
use Rattle.eval_mask.specs.declared.completing.Write.{Write}
use Rattle.eval_mask.proofs.Masked.{no_both}
use Rattle.eval_mask.proofs.WrittenValues.{first_free, first_given}
use Rattle.eval_mask.proofs.written.is_first_alike.Goals as goal

pub returns-then-is_same_register : goal.returns-then-is_same_register
returns-then-is_same_register c =
    first_free c.args.needs.now c.args.arch.now c.args.w.now c.args.other.now c.args.m.now c.args.d.now c.args.case.now c.same_values.result c.requires.case
    c.requires.register (inl (rw c.write_held-rd.ensures at (c.is_same_register.ensures.0 c.if-is_same_register.true)))
    (rw c.write_held-first.ensures at c.same_values.ensures)

pub returns-then-not-is_taken : goal.returns-then-not-is_taken
returns-then-not-is_taken c =
    first_free c.args.needs.now c.args.arch.now c.args.w.now c.args.other.now c.args.m.now c.args.d.now c.args.case.now c.same_values-then-not-is_taken.result
    c.requires.case c.requires.register (inr (rw c.write_held-rd.ensures at (sym c.is_taken.ensures ∙ c.if-not-is_taken.true)))
    (rw c.write_held-first.ensures at c.same_values-then-not-is_taken.ensures)

pub returns-in-Some : goal.returns-in-Some
returns-in-Some c =
    first_given c.args.needs.now c.args.arch.now c.args.w.now c.args.other.now c.args.m.now c.args.d.now c.args.case.now c.in-Some.above
    c.same_values-in-Some.result c.requires.case c.requires.register
    (λ e. no_both _ (c.is_same_register.ensures.1 (ap (λ (x : Write). x.rd) c.write_held-rd.ensures ∙ e)) c.if-is_same_register.false)
    (rw c.write_held-rd.ensures at (sym c.is_taken.ensures ∙ c.if-not-is_taken.false))
    (rw (c.write_held-rd.ensures, c.write_held-first.ensures) at (sym c.value_given.ensures ∙ c.in-Some.is))
    (rw c.write_held-first.ensures at c.same_values-in-Some.ensures)
