use Rattle.std.proofs.Common.{◌+◌}
use Rattle.eval_mask.specs.Cases.{IsMaskBelow}
use Rattle.eval_mask.specs.LatchMasks.{IsExecutedMasked}
use Rattle.eval_mask.proofs.latches.place_bits.Given as goal

abbrev pub invariant-loop-k : goal.invariant-loop-k
invariant-loop-k l = IsMaskBelow l.k (λ k. IsExecutedMasked l.needs l.arch
    (record { w = l.w; m = l.m; d = l.d })
    l.case.oldest.value l.case.npc l.case.issued (11 + k)) l.mask
