use Rattle.std.proofs.Common.{refl, arith}
use Rattle.eval_mask.proofs.ReadInputs.{number_keeps}
use Rattle.eval_mask.proofs.UnreadMasks.{unread_masked}
use Rattle.eval_mask.proofs.inputs.number_bit.Goals as goal

pub is_input_masked-requires-clause-op : goal.is_input_masked-requires-clause-op
is_input_masked-requires-clause-op c = rw c.flip.ensures (number_keeps c.args.d.now c.args.k c.requires.from c.requires.to).0

pub is_input_masked-requires-clause-rd : goal.is_input_masked-requires-clause-rd
is_input_masked-requires-clause-rd c = rw c.flip.ensures (number_keeps c.args.d.now c.args.k c.requires.from c.requires.to).1

pub is_input_masked-requires-clause-pc : goal.is_input_masked-requires-clause-pc
is_input_masked-requires-clause-pc c = rw c.flip.ensures (number_keeps c.args.d.now c.args.k c.requires.from c.requires.to).2

pub returns : goal.returns
returns c = c.is_input_masked.ensures c.args.k (omega (arith, c.requires.from)) (omega (arith, c.requires.to)) c.flip.ensures

pub returns-then-keeps_operands : goal.returns-then-keeps_operands
returns-then-keeps_operands c = (
  λ t.
      unread_masked c.args.needs.now c.args.arch.now c.args.w.now c.args.m.now c.args.d.now c.args.case.now c.args.k c.requires.case
      c.requires.on_path (omega (arith, c.requires.from)) (omega (arith, c.requires.to))
      (c.keeps_operands.ensures c.if-keeps_operands.true) c.requires.unread,
  λ s. refl,
)
