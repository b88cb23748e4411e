use Rattle.eval_mask.proofs.ValueBits.{alu_second_bits}
use Rattle.eval_mask.proofs.values.alu_second.Goals as goal

pub returns : goal.returns
returns c =
    alu_second_bits c.args.needs.now c.args.arch.now c.args.w.now c.args.m.now c.args.d.now c.args.case.now c.args.kind
    c.second_bits.result c.requires.case c.requires.on_path c.requires.reached c.requires.unread c.second_bits.ensures.fits c.requires.operation c.requires.held
    c.second_bits.ensures.bits
