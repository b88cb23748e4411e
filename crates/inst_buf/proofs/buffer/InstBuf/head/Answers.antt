use Rattle.std.proofs.Common.{◌<◌, length, arith, refl}
use Rattle.bit_field.proofs.Slots.{first_used}
use Rattle.inst_buf.proofs.buffer.InstBuf.head.Goals as goal

pub returns-then-slot : goal.returns-then-slot
returns-then-slot c =
    let within : c.loop-slot.slot-index < length c.self.inside.slots = omega arith in
    rw (← c.self.view_is, first_used (λ e. e.valid) _ _ _ _ within c.slot.view_is c.if-slot.true c.loop-slot.invariant) refl
