use Rattle.std.proofs.Common.{◌≡◌, ◌+◌, ◌*◌, ◌&&◌, Bool, not, ap, subst, sym, ◌∙◌}
use Rattle.std.specs.Prelude.{if◌then◌else◌}
use Rattle.bit_field.specs.Lanes.{has_lane}
use Rattle.store_buf.specs.Entry.{Entry}
use Rattle.ace_rules.specs.Asked.{is_dead}
use Rattle.ace_rules.specs.RuleMasks.{is_set}
use Rattle.ace_rules.specs.declared.tally_pending.TheConstants.{BYTE_MASK}
use Rattle.ace_rules.proofs.PendingMarks.{byte-marked}
use Rattle.ace_rules.proofs.tally_pending.byte_masks.Goals as goal

pub returns : goal.returns
returns c = λ image b j l.
    let store = c.store.view_is ∙ c.slot-store.ensures in
    byte-marked c.args.needs.now c.args.note.now c.args.quiet c.args.slot c.args.lane j l c.store.inside.mask c.store.inside.addr image b
    c.when-empty.result c.dead_value_bits-dead.result c.when.result (ap (λ (e : Entry). e.mask) store)
    (ap (λ (e : Entry). e.addr) store)
    (c.when-empty.ensures ∙ ap (λ (b : Bool). if not b then BYTE_MASK else 0) c.has_lane.ensures)
    (subst (λ (e : Entry). is_set c.dead_value_bits-dead.result j ≡ (has_lane e.mask c.args.lane
    && is_dead c.args.needs.now c.args.note.now (c.args.slot + 1) (4 * e.addr + c.args.lane) j)) (sym c.store.view_is)
    (c.dead_value_bits-dead.ensures j l))
    c.when.ensures
