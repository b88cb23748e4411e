use Rattle.std.proofs.Common.{refl, sym, ◌∙◌, ap, arith}
use Rattle.eval_mask.specs.Unread.{writes_register}
use Rattle.rv_table.specs.declared.operation.Operation.{Operation}
use Rattle.eval_mask.proofs.Masked.{not_true}
use Rattle.eval_mask.proofs.OtherCode.{register_unread}
use Rattle.eval_mask.proofs.OtherRegister.{register_never}
use Rattle.eval_mask.proofs.UnreadMasks.{unread_masked}
use Rattle.eval_mask.proofs.decoded.register_bit.Goals as goal

pub returns-then-not-writes_register : goal.returns-then-not-writes_register
returns-then-not-writes_register c = (
  λ t.
      unread_masked c.args.needs.now c.args.arch.now c.args.w.now c.args.m.now c.args.d.now c.args.case.now c.args.k c.requires.case
      c.requires.on_path (omega (arith, c.requires.from)) (omega (arith, c.requires.to))
      (register_unread c.args.w.now c.args.d.now c.args.case.now.own.below.write c.args.k c.requires.from c.requires.to
      (ap (λ (o : Operation). writes_register o) (sym c.requires.facts.operation) ∙ sym c.writes_register.ensures ∙ c.if-not-writes_register.true))
      c.requires.unread,
  λ s. refl,
)

pub returns-then-is_register_needed : goal.returns-then-is_register_needed
returns-then-is_register_needed c = (
  λ t. absurd (not_true t),
  λ s.
      absurd
      (register_never c.args.needs.now c.args.arch.now c.args.w.now c.args.m.now c.args.d.now c.args.case.now c.args.k c.requires.case
      c.requires.on_path c.requires.reached c.requires.unread
      (c.requires.facts.needed (c.is_register_needed.ensures.needed c.if-is_register_needed.true))
      (c.is_register_needed.ensures.alone c.if-is_register_needed.true) c.requires.from c.requires.to s),
)
