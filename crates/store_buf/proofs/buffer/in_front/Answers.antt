use Rattle.bit_field.proofs.Slots.{IsMovedSoFar-used, IsMovedSoFar-unused}
use Rattle.store_buf.specs.Pending.{is_pending}
use Rattle.store_buf.proofs.Packed.{free-mask, pending-mask}
use Rattle.store_buf.proofs.buffer.in_front.Goals as goal
use Rattle.store_buf.proofs.buffer.in_front.Goals.{then-slot-ne0, else-slot-ne0}

pub loop-slot-preserved : goal.loop-slot-preserved
loop-slot-preserved c =
    elim c.if-slot-ne0.branch [
      | then-slot-ne0 w ↦
          rw (w.next-is, w.count-is)
          (IsMovedSoFar-used is_pending _ _ _ _ _ _ _ _ c.requires c.loop-slot-test.true c.slot.view_is
          (pending-mask (record { mask = c.slot.inside.mask; addr = c.slot.inside.addr; value = c.slot.inside.value }) w.if-slot-ne0.true)
          c.loop-slot.invariant)
      | else-slot-ne0 w ↦
          rw (w.next-is, w.count-is)
          (IsMovedSoFar-unused is_pending _ _ _ _ _ _ _ _ c.requires c.loop-slot-test.true c.slot.view_is
          (free-mask (record { mask = c.slot.inside.mask; addr = c.slot.inside.addr; value = c.slot.inside.value }) w.if-slot-ne0.false)
          c.loop-slot.invariant)
    ]
