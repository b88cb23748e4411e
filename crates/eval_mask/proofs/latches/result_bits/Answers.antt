use Rattle.std.proofs.Common.{ℕ, ◌+◌, arith}
use Rattle.eval_mask.specs.LatchMasks.{IsExecutedMasked, Latches}
use Rattle.eval_mask.proofs.FreeValues.{below_field, nothing_field}
use Rattle.eval_mask.proofs.Masked.{no_both}
use Rattle.eval_mask.proofs.MaskLoops.{mask_kept, mask_set, mask_start}
use Rattle.eval_mask.proofs.latches.result_bits.Goals as goal
use Rattle.eval_mask.proofs.latches.result_bits.Goals.{then-result_bit, else-result_bit}

pub returns-then-is_nothing : goal.returns-then-is_nothing
returns-then-is_nothing c =
    rw c.whole_field.ensures
    (nothing_field c.args.needs.now c.args.arch.now c.args.w.now c.args.m.now c.args.d.now c.args.case.now c.requires.case
    (c.is_nothing.ensures c.if-is_nothing.true))

pub returns-then-is_result_free : goal.returns-then-is_result_free
returns-then-is_result_free c =
    below_field c.args.needs.now c.args.arch.now c.args.w.now c.args.m.now c.args.d.now c.args.case.now c.unneeded.result c.requires.case
    (c.is_result_free.ensures.writes c.if-is_result_free.true) (c.is_result_free.ensures.free c.if-is_result_free.true) c.unneeded.ensures.clock
    c.unneeded.ensures.bits

pub loop-k-init : goal.loop-k-init
loop-k-init c = mask_start _

pub loop-k-preserved : goal.loop-k-preserved
loop-k-preserved c =
    let case = c.args.case.now in
    let l : Latches = record { w = c.args.w.now; m = c.args.m.now; d = c.args.d.now } in
    let P = λ (k : ℕ). IsExecutedMasked c.args.needs.now c.args.arch.now l case.oldest.value case.npc case.issued (11 + k) in
    elim c.if-result_bit.branch [
      | then-result_bit w ↦
          rw w.mask-is
          (mask_set 32 c.loop-k.k c.loop-k.mask P (omega (arith, c.loop-k-test.true)) c.loop-k.invariant (c.result_bit.ensures.0 w.if-result_bit.true))
      | else-result_bit w ↦
          rw w.mask-is (mask_kept c.loop-k.k c.loop-k.mask P c.loop-k.invariant (λ p. no_both _ (c.result_bit.ensures.1 p) w.if-result_bit.false))
    ]
