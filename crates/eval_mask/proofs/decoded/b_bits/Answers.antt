use Rattle.std.proofs.Common.{subst}
use Rattle.bit_field.specs.Layouts.{flip}
use Rattle.pipe_latch.specs.Latches.{DecodedLatch}
use Rattle.eval_mask.specs.Unread.{DoesTheSame}
use Rattle.eval_mask.proofs.Fields.{b_flipped}
use Rattle.eval_mask.proofs.UnreadFields.{b_unread}
use Rattle.eval_mask.proofs.decoded.b_bits.Goals as goal

pub field_bits-requires-clause-unread : goal.field_bits-requires-clause-unread
field_bits-requires-clause-unread c =
    λ t i l.
    subst (λ (other : DecodedLatch). DoesTheSame c.args.w.now c.args.case.now.own.below.write c.args.d.now other) (b_flipped c.args.d.now i l)
    (b_unread c.args.w.now c.args.d.now c.args.case.now.own.below.write (flip c.args.d.now.b i) (rw c.is_b_unread-is_unread.ensures at t))
