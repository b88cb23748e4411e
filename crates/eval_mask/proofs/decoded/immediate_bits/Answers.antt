use Rattle.std.proofs.Common.{subst}
use Rattle.bit_field.specs.Layouts.{flip}
use Rattle.pipe_latch.specs.Latches.{DecodedLatch}
use Rattle.eval_mask.specs.Unread.{DoesTheSame}
use Rattle.eval_mask.proofs.Fields.{immediate_flipped}
use Rattle.eval_mask.proofs.UnreadFields.{immediate_unread}
use Rattle.eval_mask.proofs.decoded.immediate_bits.Goals as goal

pub field_bits-requires-clause-unread : goal.field_bits-requires-clause-unread
field_bits-requires-clause-unread c =
    λ t i l.
    subst (λ (other : DecodedLatch). DoesTheSame c.args.w.now c.args.case.now.own.below.write c.args.d.now other) (immediate_flipped c.args.d.now i l)
    (immediate_unread c.args.w.now c.args.d.now c.args.case.now.own.below.write (flip c.args.d.now.imm i) (rw c.is_immediate_unread-is_unread.ensures at t))
