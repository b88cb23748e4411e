use Rattle.bit_field.proofs.Slots.{IsMovedSoFar-used, IsMovedSoFar-unused}
use Rattle.inst_buf.proofs.buffer.rippled.Goals as goal
use Rattle.inst_buf.proofs.buffer.rippled.Goals.{then-slot, else-slot}

pub loop-slot-preserved : goal.loop-slot-preserved
loop-slot-preserved c =
    elim c.if-slot.branch [
      | then-slot w ↦
          rw (w.next-is, w.count-is)
          (IsMovedSoFar-used (λ e. e.valid) _ _ _ _ _ _ _ _ c.requires c.loop-slot-test.true c.slot.view_is w.if-slot.true c.loop-slot.invariant)
      | else-slot w ↦
          rw (w.next-is, w.count-is)
          (IsMovedSoFar-unused (λ e. e.valid) _ _ _ _ _ _ _ _ c.requires c.loop-slot-test.true c.slot.view_is w.if-slot.false c.loop-slot.invariant)
    ]
