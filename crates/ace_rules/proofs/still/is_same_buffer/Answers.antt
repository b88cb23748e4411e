use Rattle.std.proofs.Common.{sym, ◌∙◌}
use Rattle.std.proofs.lemmas.Bool.{and_parts}
use Rattle.ace_rules.proofs.SameNotes.{same-buffer, same-store}
use Rattle.ace_rules.proofs.still.is_same_buffer.Goals as goal

pub returns : goal.returns
returns c = λ h.
    let (three, fourth) = and_parts _ _ h in
    let (two, third) = and_parts _ _ three in
    let (first, second) = and_parts _ _ two in
    same-buffer c.args.a.now c.args.b.now c.fits.ensures.0 c.fits-2.ensures.0
    (sym c.slot.ensures ∙ same-store c.slot.result c.slot-2.result (sym c.eq.ensures ∙ first) ∙ c.slot-2.ensures)
    (sym c.slot-3.ensures ∙ same-store c.slot-3.result c.slot-4.result (sym c.eq-2.ensures ∙ second) ∙ c.slot-4.ensures)
    (sym c.slot-5.ensures ∙ same-store c.slot-5.result c.slot-6.result (sym c.eq-3.ensures ∙ third) ∙ c.slot-6.ensures)
    (sym c.slot-7.ensures ∙ same-store c.slot-7.result c.slot-8.result (sym c.eq-4.ensures ∙ fourth) ∙ c.slot-8.ensures)
