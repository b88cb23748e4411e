use Rattle.std.proofs.Common.{ℕ, sym, ap, ◌∙◌}
use Rattle.need_pass.specs.Tables.{byte_need}
use Rattle.ace_rules.proofs.ByteBits.{dead-unneeded, dead-written}
use Rattle.ace_rules.proofs.tally_pending.dead_bits.Goals as goal

pub returns-then-is_pending_from : goal.returns-then-is_pending_from
returns-then-is_pending_from c = λ j l.
    dead-written c.args.needs.now c.args.note.now c.args.first c.args.byte j l (sym c.is_pending_from.ensures ∙ c.if-is_pending_from.true)

pub returns-else-is_pending_from : goal.returns-else-is_pending_from
returns-else-is_pending_from c = λ j l.
    dead-unneeded c.args.needs.now c.args.note.now c.args.first c.args.byte j l (sym c.is_pending_from.ensures ∙ c.if-is_pending_from.false)
    c.from.result c.without.result
    (c.from.ensures ∙ c.byte_need.ensures ∙ ap (λ (n : ℕ). byte_need c.args.needs.now c.args.byte n) c.retired.ensures) c.without.ensures
