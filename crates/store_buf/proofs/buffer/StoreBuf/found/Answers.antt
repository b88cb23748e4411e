use Rattle.std.proofs.Common.{◌<◌, ◌≤◌, List, length, arith, ap, refl, sym, ◌∙◌}
use Rattle.std.proofs.lemmas.List.{take_all}
use Rattle.store_buf.specs.Covers.{found}
use Rattle.store_buf.specs.Entry.{Entry}
use Rattle.store_buf.proofs.Youngest.{found-more, found-pending}
use Rattle.store_buf.proofs.buffer.StoreBuf.found.Goals as goal

pub loop-slot-init : goal.loop-slot-init
unfolding found
loop-slot-init c = refl

pub loop-slot-preserved : goal.loop-slot-preserved
loop-slot-preserved c =
    let within : c.loop-slot.slot-index < length c.self.inside.slots = omega arith in
    let more = found-more c.self.inside.slots c.loop-slot.slot-index c.slot-item.result c.slot-item.result c.args.addr c.args.lane within c.slot-item.is in
    cc

pub returns : goal.returns
returns c =
    let past : length c.self.inside.slots ≤ c.loop-slot.slot-index = omega arith in
    rw (← c.self.view_is) (
    c.loop-slot.invariant
    ∙ ap (λ (xs : List Entry). found xs c.args.addr c.args.lane) (take_all c.loop-slot.slot-index c.self.inside.slots past)
    ∙ sym (found-pending c.self.inside.slots c.args.addr c.args.lane))
