use Rattle.std.proofs.Common.{ℕ, ◌+◌, arith}
use Rattle.eval_mask.specs.LatchMasks.{IsExecutedMasked, Latches}
use Rattle.eval_mask.proofs.MaskLoops.{mask_kept, mask_set, mask_start}
use Rattle.eval_mask.proofs.Masked.{no_both}
use Rattle.eval_mask.proofs.OtherStores.{data_exactly}
use Rattle.eval_mask.proofs.latches.data_bits.Goals as goal
use Rattle.eval_mask.proofs.latches.data_bits.Goals.{then-is_data_masked, else-is_data_masked}

pub loop-k-init : goal.loop-k-init
loop-k-init c = mask_start _

pub loop-k-preserved : goal.loop-k-preserved
loop-k-preserved c =
    let case = c.args.case.now in
    let l : Latches = record { w = c.args.w.now; m = c.args.m.now; d = c.args.d.now } in
    let P = λ (k : ℕ). IsExecutedMasked c.args.needs.now c.args.arch.now l case.oldest.value case.npc case.issued (43 + k) in
    let exact =
    data_exactly c.args.needs.now c.args.arch.now c.args.w.now c.args.m.now c.args.d.now case c.args.store.now c.loop-k.k c.is_data_masked.result c.requires.case
    c.requires.store (omega (arith, c.loop-k-test.true)) c.is_data_masked.ensures in
    elim c.if-is_data_masked.branch [
      | then-is_data_masked w ↦
          rw w.mask-is (mask_set 32 c.loop-k.k c.loop-k.mask P (omega (arith, c.loop-k-test.true)) c.loop-k.invariant (exact.0 w.if-is_data_masked.true))
      | else-is_data_masked w ↦ rw w.mask-is (mask_kept c.loop-k.k c.loop-k.mask P c.loop-k.invariant (λ p. no_both _ (exact.1 p) w.if-is_data_masked.false))
    ]
