use Rattle.std.proofs.Common.{arith}
use Rattle.eval_mask.specs.LatchMasks.{IsDecodedMasked, Latches}
use Rattle.eval_mask.proofs.Masked.{no_both, decoded_before}
use Rattle.eval_mask.proofs.MaskLoops.{mask_kept, mask_set}
use Rattle.eval_mask.proofs.Rows.{row_start}
use Rattle.eval_mask.proofs.decoded.front_bits.Goals as goal
use Rattle.eval_mask.proofs.decoded.front_bits.Goals.{then-front_bit, else-front_bit}

pub loop-k-init : goal.loop-k-init
loop-k-init c = row_start 31 _ (λ k h. decoded_before _ _ _ _ _ _ k h)

pub loop-k-preserved : goal.loop-k-preserved
loop-k-preserved c =
    let case = c.args.case.now in
    let l : Latches = record { w = c.args.w.now; m = c.args.m.now; d = c.args.d.now } in
    let P = IsDecodedMasked c.args.needs.now c.args.arch.now l case.oldest.value case.npc case.issued in
    elim c.if-front_bit.branch [
      | then-front_bit w ↦
          rw w.mask-is
          (mask_set 128 c.loop-k.k c.loop-k.mask P (omega (arith, c.loop-k-test.true)) c.loop-k.invariant (c.front_bit.ensures.0 w.if-front_bit.true))
      | else-front_bit w ↦
          rw w.mask-is (mask_kept c.loop-k.k c.loop-k.mask P c.loop-k.invariant (λ p. no_both _ (c.front_bit.ensures.1 p) w.if-front_bit.false))
    ]
