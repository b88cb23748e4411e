use Rattle.std.proofs.Common.{◌+◌, ◌≤◌}
use Rattle.bit_field.specs.Layouts.{flip}
use Rattle.eval_mask.specs.Cases.{IsMaskBelow}
use Rattle.eval_mask.specs.WordMasks.{IsAlikeWord}
use Rattle.eval_mask.proofs.words.bits_alike.Given as goal

abbrev pub invariant-loop-k : goal.invariant-loop-k
invariant-loop-k g l =
    IsMaskBelow l.k (λ k. IsAlikeWord l.needs l.i l.arch l.word (flip l.word k)) l.mask × (l.applies ≤ l.initial.applies + l.k)
