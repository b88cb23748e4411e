use Rattle.std.proofs.Common.{◌+◌}
use Rattle.eval_mask.specs.Cases.{IsMaskBelow}
use Rattle.eval_mask.specs.LatchMasks.{IsDecodedMasked}
use Rattle.eval_mask.specs.OtherDoings.{first_bit}
use Rattle.eval_mask.proofs.decoded.field_bits.Given as goal

abbrev pub invariant-loop-k : goal.invariant-loop-k
invariant-loop-k l = IsMaskBelow l.k (λ k. IsDecodedMasked l.needs l.arch
    (record { w = l.w; m = l.m; d = l.d })
    l.case.oldest.value l.case.npc l.case.issued (first_bit l.input + k)) l.mask
