use Rattle.flush_view.proofs.Memory.FourSlots.{overlaid_slots}
use Rattle.flush_view.proofs.views.stored_byte.Goals as goal

pub returns : goal.returns
returns c =
    rw (c.over.ensures, c.over-third.ensures, c.over-second.ensures, c.over-first.ensures, c.slot-4.ensures, c.slot-3.ensures, c.slot-2.ensures, c.slot.ensures)
    (overlaid_slots c.args.stores.now c.args.addr c.args.below c.fits.ensures.0)
