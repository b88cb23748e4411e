use Rattle.std.proofs.Common.{ℕ}
use Rattle.std.proofs.lemmas.Nat.{one_shl}
use Rattle.bit_field.specs.Layouts.{flip}
use Rattle.rv_table.specs.Actions.{holds}
use Rattle.eval_mask.specs.QuickDoings.{StaysOr}
use Rattle.eval_mask.proofs.Masked.{no_both}
use Rattle.eval_mask.proofs.MaskLoops.{mask_kept, mask_set, mask_start}
use Rattle.eval_mask.proofs.ways.second_ways.Goals as goal
use Rattle.eval_mask.proofs.ways.second_ways.Goals.{then-stays_or, else-stays_or}

pub loop-k-init : goal.loop-k-init
loop-k-init c = mask_start _

pub loop-k-preserved : goal.loop-k-preserved
loop-k-preserved c =
    let P = λ (i : ℕ). StaysOr (holds c.args.kind c.args.a (flip c.args.b i)) (holds c.args.kind c.args.a c.args.b) c.args.turned in
    let same = rw (one_shl c.loop-k.k 32 c.loop-k-test.true) at (rw (c.holds.ensures, c.holds-own.ensures) at c.stays_or.ensures) in
    elim c.if-stays_or.branch [
      | then-stays_or w ↦
          rw w.bits-is (mask_set 32 c.loop-k.k c.loop-k.bits P c.loop-k-test.true c.loop-k.invariant (same.0 w.if-stays_or.true))
      | else-stays_or w ↦
          rw w.bits-is (mask_kept c.loop-k.k c.loop-k.bits P c.loop-k.invariant (λ p. no_both _ (same.1 p) w.if-stays_or.false))
    ]
