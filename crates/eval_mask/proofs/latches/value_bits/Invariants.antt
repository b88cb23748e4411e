use Rattle.std.proofs.Common.{◌+◌}
use Rattle.eval_mask.specs.Cases.{IsMaskBelow}
use Rattle.eval_mask.specs.LatchMasks.{IsResultMasked}
use Rattle.eval_mask.proofs.latches.value_bits.Given as goal

abbrev pub invariant-loop-k : goal.invariant-loop-k
invariant-loop-k l = IsMaskBelow l.k (λ k. IsResultMasked l.needs l.arch
    (record { w = l.w; m = l.m; d = l.d })
    l.case.oldest.value l.case.npc l.case.issued (5 + k)) l.mask
