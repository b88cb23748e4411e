use Rattle.std.proofs.Common.{ap, ◌∙◌}
use Rattle.store_buf.specs.Entry.{Entry}
use Rattle.ace_rules.proofs.TargetMarks.{address-marked, mask-marked}
use Rattle.ace_rules.proofs.tally_target.target_masks.Goals as goal

pub returns-clause-mask : goal.returns-clause-mask
returns-clause-mask c =
    mask-marked c.args.image.now c.args.needs.now c.args.note.now c.args.slot c.args.quiet c.when.inside.mask c.when-empty.result
    c.spared_lanes-lanes.result c.address_bits-address.result c.when-2.result (ap (λ (e : Entry). e.mask) (c.when.view_is ∙ c.slot.ensures))
    c.when-empty.ensures c.when-2.ensures c.spared_lanes-lanes.ensures.lanes c.spared_lanes-lanes.ensures.others c.address_bits-address.ensures

pub returns-clause-address : goal.returns-clause-address
returns-clause-address c =
    address-marked c.args.image.now c.args.needs.now c.args.note.now c.args.slot c.args.quiet c.when.inside.mask c.when-empty.result
    c.spared_lanes-lanes.result c.address_bits-address.result c.when-2.result (ap (λ (e : Entry). e.mask) (c.when.view_is ∙ c.slot.ensures))
    c.when-empty.ensures c.when-2.ensures c.spared_lanes-lanes.ensures.lanes c.spared_lanes-lanes.ensures.others c.address_bits-address.ensures
