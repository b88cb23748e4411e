use Rattle.std.proofs.Common.{ℕ}
use Rattle.std.proofs.lemmas.Nat.{one_shl}
use Rattle.bit_field.specs.Layouts.{flip}
use Rattle.rv_table.specs.Arithmetic.{alu}
use Rattle.eval_mask.specs.Compared.{SameWhere}
use Rattle.eval_mask.proofs.Masked.{no_both}
use Rattle.eval_mask.proofs.MaskLoops.{mask_kept, mask_set, mask_start}
use Rattle.eval_mask.proofs.values.second_bits.Goals as goal
use Rattle.eval_mask.proofs.values.second_bits.Goals.{then-same_word, else-same_word}

pub loop-k-init : goal.loop-k-init
loop-k-init c = mask_start _

pub loop-k-preserved : goal.loop-k-preserved
loop-k-preserved c =
    let P = λ (i : ℕ). SameWhere 32 c.args.mask (alu c.args.kind c.args.a (flip c.args.b i)) c.args.own in
    let same = rw (one_shl c.loop-k.k 32 c.loop-k-test.true) at (rw c.alu.ensures at c.same_word.ensures) in
    elim c.if-same_word.branch [
      | then-same_word w ↦
          rw w.bits-is (mask_set 32 c.loop-k.k c.loop-k.bits P c.loop-k-test.true c.loop-k.invariant (same.0 w.if-same_word.true))
      | else-same_word w ↦
          rw w.bits-is (mask_kept c.loop-k.k c.loop-k.bits P c.loop-k.invariant (λ p. no_both _ (same.1 p) w.if-same_word.false))
    ]
