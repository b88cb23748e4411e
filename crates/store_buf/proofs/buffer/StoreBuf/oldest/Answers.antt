use Rattle.std.proofs.Common.{◌<◌, length, arith, refl}
use Rattle.bit_field.proofs.Slots.{first_used}
use Rattle.store_buf.specs.Pending.{is_pending}
use Rattle.store_buf.proofs.Packed.{pending-mask}
use Rattle.store_buf.proofs.buffer.StoreBuf.oldest.Goals as goal

pub returns-then-slot-ne0 : goal.returns-then-slot-ne0
returns-then-slot-ne0 c =
    let within : c.loop-slot.slot-index < length c.self.inside.slots = omega arith in
    rw (
      ← c.self.view_is,
      first_used is_pending _ _ _ _ within c.slot.view_is
          (pending-mask (record { mask = c.slot.inside.mask; addr = c.slot.inside.addr; value = c.slot.inside.value }) c.if-slot-ne0.true)
          c.loop-slot.invariant,
    )
    refl
