use Rattle.eval_mask.proofs.ReadInputs.{input_exactly, like_of}
use Rattle.eval_mask.proofs.inputs.is_input_masked.Goals as goal

pub is_alike-requires-clause-like : goal.is_alike-requires-clause-like
is_alike-requires-clause-like c =
    like_of c.args.needs.now c.args.arch.now c.args.w.now c.args.m.now c.args.d.now c.args.other.now c.args.case.now c.requires.case
    c.requires.reached c.requires.op c.requires.rd c.requires.pc

pub returns : goal.returns
returns c =
    λ k from to e.
    input_exactly c.args.needs.now c.args.arch.now c.args.w.now c.args.m.now c.args.d.now c.args.other.now c.args.case.now k
    c.is_alike.result c.requires.case c.requires.on_path c.requires.reached c.requires.unread from to e c.requires.op
    (rw (c.first_operand-a.ensures, c.second_operand-held.ensures) at c.is_alike.ensures)
