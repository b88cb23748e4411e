use Rattle.std.proofs.Common.{arith}
use Rattle.eval_mask.specs.LatchMasks.{IsResultMasked, Latches}
use Rattle.eval_mask.proofs.Masked.{written_after}
use Rattle.eval_mask.proofs.Rows.{row_done, row_next}
use Rattle.eval_mask.proofs.latches.written_bits.Goals as goal

pub returns : goal.returns
returns c =
    let case = c.args.case.now in
    let l : Latches = record { w = c.args.w.now; m = c.args.m.now; d = c.args.d.now } in
    let P = IsResultMasked c.args.needs.now c.args.arch.now l case.oldest.value case.npc case.issued in
    rw c.from.ensures
    (row_done 64 37 _ P (λ k h. written_after c.args.needs.now c.args.arch.now l case.oldest.value case.npc case.issued k h)
    (row_next 64 5 32 c.register_bits-register.result c.value_bits-value.result P (omega arith) c.register_bits-register.ensures c.value_bits-value.ensures))
