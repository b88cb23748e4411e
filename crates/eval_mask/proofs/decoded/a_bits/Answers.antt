use Rattle.std.proofs.Common.{subst}
use Rattle.bit_field.specs.Layouts.{flip}
use Rattle.pipe_latch.specs.Latches.{DecodedLatch}
use Rattle.eval_mask.specs.Unread.{DoesTheSame}
use Rattle.eval_mask.proofs.Fields.{a_flipped}
use Rattle.eval_mask.proofs.UnreadFields.{a_unread}
use Rattle.eval_mask.proofs.decoded.a_bits.Goals as goal

pub field_bits-requires-clause-unread : goal.field_bits-requires-clause-unread
field_bits-requires-clause-unread c =
    λ t i l.
    subst (λ (other : DecodedLatch). DoesTheSame c.args.w.now c.args.case.now.own.below.write c.args.d.now other) (a_flipped c.args.d.now i l)
    (a_unread c.args.w.now c.args.d.now c.args.case.now.own.below.write (flip c.args.d.now.a i) (rw c.is_a_unread-is_unread.ensures at t))
