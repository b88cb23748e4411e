use Rattle.std.proofs.Common.{arith}
use Rattle.eval_mask.specs.LatchMasks.{IsExecutedMasked, Latches}
use Rattle.eval_mask.proofs.Masked.{no_both}
use Rattle.eval_mask.proofs.MaskLoops.{mask_kept, mask_set}
use Rattle.eval_mask.proofs.latches.asked_bits.Goals as goal
use Rattle.eval_mask.proofs.latches.asked_bits.Goals.{then-executed_bit, else-executed_bit}

pub loop-k-preserved : goal.loop-k-preserved
loop-k-preserved c =
    let case = c.args.case.now in
    let l : Latches = record { w = c.args.w.now; m = c.args.m.now; d = c.args.d.now } in
    let P = IsExecutedMasked c.args.needs.now c.args.arch.now l case.oldest.value case.npc case.issued in
    elim c.if-executed_bit.branch [
      | then-executed_bit w ↦
          rw w.mask-is
          (mask_set 128 c.loop-k.k c.loop-k.mask P (omega (arith, c.loop-k-test.true)) c.loop-k.invariant (c.executed_bit.ensures.0 w.if-executed_bit.true))
      | else-executed_bit w ↦
          rw w.mask-is (mask_kept c.loop-k.k c.loop-k.mask P c.loop-k.invariant (λ p. no_both _ (c.executed_bit.ensures.1 p) w.if-executed_bit.false))
    ]
