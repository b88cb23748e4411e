use Rattle.eval_mask.proofs.ValueBits.{immediate_first_bits}
use Rattle.eval_mask.proofs.values.immediate_first.Goals as goal

pub returns : goal.returns
returns c =
    immediate_first_bits c.args.needs.now c.args.arch.now c.args.w.now c.args.m.now c.args.d.now c.args.case.now c.args.kind
    c.first_bits.result c.requires.case c.requires.on_path c.requires.reached c.requires.unread c.first_bits.ensures.fits c.requires.operation c.requires.held
    (rw c.immediate_of-imm.ensures at c.first_bits.ensures.bits)
