use Rattle.eval_mask.proofs.ReadInputs.{input_inside}
use Rattle.eval_mask.proofs.decoded.field_bit.Goals as goal

pub decoded_bit-requires-clause-from : goal.decoded_bit-requires-clause-from
decoded_bit-requires-clause-from c = rw c.first_bit.ensures (input_inside c.args.input c.args.k c.requires.bit).0

pub decoded_bit-requires-clause-to : goal.decoded_bit-requires-clause-to
decoded_bit-requires-clause-to c = rw c.first_bit.ensures (input_inside c.args.input c.args.k c.requires.bit).1
