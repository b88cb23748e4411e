use Rattle.eval_mask.proofs.ReadInputs.{input_inside, input_keeps}
use Rattle.eval_mask.proofs.inputs.input_bit.Goals as goal

pub is_input_masked-requires-clause-op : goal.is_input_masked-requires-clause-op
is_input_masked-requires-clause-op c = rw c.with_flip-other.ensures (input_keeps c.args.d.now c.args.input c.args.k c.requires.bit).0

pub is_input_masked-requires-clause-rd : goal.is_input_masked-requires-clause-rd
is_input_masked-requires-clause-rd c = rw c.with_flip-other.ensures (input_keeps c.args.d.now c.args.input c.args.k c.requires.bit).1

pub is_input_masked-requires-clause-pc : goal.is_input_masked-requires-clause-pc
is_input_masked-requires-clause-pc c = rw c.with_flip-other.ensures (input_keeps c.args.d.now c.args.input c.args.k c.requires.bit).2

pub returns : goal.returns
returns c =
    let inside = input_inside c.args.input c.args.k c.requires.bit in
    c.is_input_masked.ensures _ inside.0 inside.1 c.with_flip-other.ensures
