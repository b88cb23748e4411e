use Rattle.std.proofs.Common.{◌≡◌, ◌+◌, ◌*◌, ℕ, ap, arith, ◌∙◌}
use Rattle.store_buf.specs.Entry.{Entry}
use Rattle.store_buf.specs.Pending.{slot_of}
use Rattle.ace_rules.specs.Asked.{is_spared}
use Rattle.ace_rules.proofs.TargetMarks.{four-lanes, four-none}
use Rattle.ace_rules.proofs.tally_target.spared_lanes.Goals as goal

pub returns-clause-lanes : goal.returns-clause-lanes
returns-clause-lanes c =
    let addr : c.first.inside.addr ≡ (slot_of c.args.note.now.stores c.args.slot).addr = ap (λ (e : Entry). e.addr) (c.first.view_is ∙ c.slot.ensures) in
    let at = λ (p : ℕ). is_spared c.args.image.now c.args.needs.now c.args.note.now c.args.slot p in
    four-lanes c.is_spared.result c.is_spared-2.result c.is_spared-3.result c.is_spared-4.result c.when.result c.when-2.result c.when-3.result
    c.when-4.result c.when.ensures c.when-2.ensures c.when-3.ensures c.when-4.ensures
    (λ l. is_spared c.args.image.now c.args.needs.now c.args.note.now c.args.slot (4 * (slot_of c.args.note.now.stores c.args.slot).addr + l))
    (c.is_spared.ensures ∙ ap at (omega (arith, addr))) (c.is_spared-2.ensures ∙ ap at (omega (arith, addr)))
    (c.is_spared-3.ensures ∙ ap at (omega (arith, addr))) (c.is_spared-4.ensures ∙ ap at (omega (arith, addr)))

pub returns-clause-others : goal.returns-clause-others
returns-clause-others c =
    four-none c.is_spared.result c.is_spared-2.result c.is_spared-3.result c.is_spared-4.result c.when.result c.when-2.result c.when-3.result
    c.when-4.result c.when.ensures c.when-2.ensures c.when-3.ensures c.when-4.ensures
