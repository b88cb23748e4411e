use Rattle.std.proofs.Common.{ℕ, ◌+◌, arith}
use Rattle.eval_mask.specs.LatchMasks.{IsResultMasked, Latches}
use Rattle.eval_mask.proofs.FreeValues.{first_field}
use Rattle.eval_mask.proofs.Masked.{no_both}
use Rattle.eval_mask.proofs.MaskLoops.{mask_kept, mask_set, mask_start}
use Rattle.eval_mask.proofs.latches.value_bits.Goals as goal
use Rattle.eval_mask.proofs.latches.value_bits.Goals.{then-written_bit, else-written_bit}

pub returns-then-is_first_free : goal.returns-then-is_first_free
returns-then-is_first_free c =
    first_field c.args.needs.now c.args.arch.now c.args.w.now c.args.m.now c.args.d.now c.args.case.now c.unneeded.result c.requires.case
    (c.is_first_free.ensures c.if-is_first_free.true) c.unneeded.ensures.clock c.unneeded.ensures.bits

pub loop-k-init : goal.loop-k-init
loop-k-init c = mask_start _

pub loop-k-preserved : goal.loop-k-preserved
loop-k-preserved c =
    let case = c.args.case.now in
    let l : Latches = record { w = c.args.w.now; m = c.args.m.now; d = c.args.d.now } in
    let P = λ (k : ℕ). IsResultMasked c.args.needs.now c.args.arch.now l case.oldest.value case.npc case.issued (5 + k) in
    elim c.if-written_bit.branch [
      | then-written_bit w ↦
          rw w.mask-is
          (mask_set 32 c.loop-k.k c.loop-k.mask P (omega (arith, c.loop-k-test.true)) c.loop-k.invariant (c.written_bit.ensures.0 w.if-written_bit.true))
      | else-written_bit w ↦
          rw w.mask-is (mask_kept c.loop-k.k c.loop-k.mask P c.loop-k.invariant (λ p. no_both _ (c.written_bit.ensures.1 p) w.if-written_bit.false))
    ]
