use Rattle.std.proofs.Common.{ℕ, arith}
use Rattle.std.proofs.lemmas.Nat.{one_shl}
use Rattle.bit_field.specs.Layouts.{flip}
use Rattle.eval_mask.specs.WordMasks.{IsAlikeWord}
use Rattle.eval_mask.proofs.Masked.{no_both}
use Rattle.eval_mask.proofs.MaskLoops.{mask_kept, mask_set}
use Rattle.eval_mask.proofs.words.bits_alike.Goals as goal
use Rattle.eval_mask.proofs.words.bits_alike.Goals.{then-is_alike, else-is_alike}

pub loop-k-preserved : goal.loop-k-preserved
loop-k-preserved g c =
    let P = λ (k : ℕ). IsAlikeWord c.args.needs.now c.args.i c.args.arch.now c.args.word (flip c.args.word k) in
    let alike = rw (one_shl c.loop-k.k 32 c.loop-k-test.true) at c.is_alike.ensures.alike in (
      elim c.if-is_alike.branch [
        | then-is_alike w ↦
            rw w.mask-is (mask_set 32 c.loop-k.k c.loop-k.mask P c.loop-k-test.true c.loop-k.invariant.0 (alike.0 w.if-is_alike.true))
        | else-is_alike w ↦
            rw w.mask-is (mask_kept c.loop-k.k c.loop-k.mask P c.loop-k.invariant.0 (λ p. no_both _ (alike.1 p) w.if-is_alike.false))
      ],
      omega (arith, c.loop-k.invariant.1, c.is_alike.ensures.ticks),
    )
