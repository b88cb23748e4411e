use Rattle.std.proofs.Common.{arith}
use Rattle.eval_mask.specs.Cases.{IsMaskBelow}
use Rattle.eval_mask.specs.LatchMasks.{IsExecutedMasked, Latches}
use Rattle.eval_mask.proofs.Masked.{executed_after}
use Rattle.eval_mask.proofs.Rows.{row_done, row_next}
use Rattle.eval_mask.proofs.latches.executed_bits.Goals as goal

pub returns : goal.returns
returns c =
    let case = c.args.case.now in
    let l : Latches = record { w = c.args.w.now; m = c.args.m.now; d = c.args.d.now } in
    let P = IsExecutedMasked c.args.needs.now c.args.arch.now l case.oldest.value case.npc case.issued in
    let front : IsMaskBelow 43 P c.with_field.result =
    rw c.with_field.ensures
    (row_next 128 11 32 c.asked_bits-asked.result c.result_bits-result.result P (omega arith) c.asked_bits-asked.ensures c.result_bits-result.ensures) in
    rw c.with_field-2.ensures
    (row_done 128 75 _ P (λ k h. executed_after c.args.needs.now c.args.arch.now l case.oldest.value case.npc case.issued k h)
    (row_next 128 43 32 _ c.stored_bits-stored.result P (omega arith) front c.stored_bits-stored.ensures))
