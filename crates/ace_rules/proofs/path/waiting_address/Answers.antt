use Rattle.std.proofs.Common.{arith, sym, ap, ◌∙◌}
use Rattle.std.specs.Prelude.{Some}
use Rattle.inst_buf.specs.Entry.{Entry}
use Rattle.ace_rules.proofs.Paths.{waiting_past, waiting_slot}
use Rattle.ace_rules.proofs.path.waiting_address.Goals as goal

pub returns-then-k-len : goal.returns-then-k-len
returns-then-k-len c =
    ap (λ (entry : Entry). Some entry.pc) (c.result.view_is ∙ c.slot.ensures)
    ∙ sym (waiting_slot c.args.buffer.now c.args.k c.requires (omega (arith, c.if-k-len.true, c.len.ensures)))

pub returns-else-k-len : goal.returns-else-k-len
returns-else-k-len c = sym (waiting_past c.args.buffer.now c.args.k (omega (arith, c.if-k-len.false, c.len.ensures)))
