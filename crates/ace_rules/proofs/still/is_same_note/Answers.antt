use Rattle.std.proofs.Common.{sym, ◌∙◌}
use Rattle.ace_rules.proofs.SameNotes.{same-masks, same-note}
use Rattle.ace_rules.proofs.still.is_same_note.Goals as goal

pub returns : goal.returns
returns c = λ h.
    same-note c.args.a.now c.args.b.now c.is_same_address.result c.is_same_address-2.result c.is_same_buffer.result c.eq.result
    c.is_same_address.ensures c.is_same_address-2.ensures c.is_same_buffer.ensures
    (λ e. same-masks c.args.a.now.masks c.args.b.now.masks (sym c.eq.ensures ∙ e)) h
