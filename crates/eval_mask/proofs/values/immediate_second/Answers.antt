use Rattle.eval_mask.proofs.ValueBits.{immediate_second_bits}
use Rattle.eval_mask.proofs.values.immediate_second.Goals as goal

pub returns : goal.returns
returns c =
    immediate_second_bits c.args.needs.now c.args.arch.now c.args.w.now c.args.m.now c.args.d.now c.args.case.now c.args.kind
    c.second_bits.result c.requires.case c.requires.on_path c.requires.reached c.requires.unread c.second_bits.ensures.fits c.requires.operation
    (rw c.immediate_of-imm.ensures at c.second_bits.ensures.bits)
