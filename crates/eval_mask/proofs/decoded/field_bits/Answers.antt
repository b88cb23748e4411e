use Rattle.std.proofs.Common.{ℕ, ◌+◌, arith}
use Rattle.eval_mask.specs.LatchMasks.{IsDecodedMasked, Latches}
use Rattle.eval_mask.proofs.Masked.{no_both}
use Rattle.eval_mask.proofs.MaskLoops.{mask_kept, mask_set, mask_start}
use Rattle.eval_mask.proofs.UnreadMasks.{unread_field}
use Rattle.eval_mask.specs.OtherDoings.{first_bit}
use Rattle.eval_mask.proofs.ReadInputs.{input_above, input_below}
use Rattle.eval_mask.proofs.decoded.field_bits.Goals as goal
use Rattle.eval_mask.proofs.decoded.field_bits.Goals.{then-field_bit, else-field_bit}

pub returns-then-is_unread : goal.returns-then-is_unread
returns-then-is_unread c =
    rw c.whole_field.ensures
    (unread_field c.args.needs.now c.args.arch.now c.args.w.now c.args.m.now c.args.d.now c.args.case.now (first_bit c.args.input) c.requires.case
    c.requires.on_path (input_above c.args.input) (input_below c.args.input) (c.requires.unread c.if-is_unread.true))

pub loop-k-init : goal.loop-k-init
loop-k-init c = mask_start _

pub loop-k-preserved : goal.loop-k-preserved
loop-k-preserved c =
    let case = c.args.case.now in
    let l : Latches = record { w = c.args.w.now; m = c.args.m.now; d = c.args.d.now } in
    let P = λ (k : ℕ). IsDecodedMasked c.args.needs.now c.args.arch.now l case.oldest.value case.npc case.issued (first_bit c.args.input + k) in
    elim c.if-field_bit.branch [
      | then-field_bit w ↦
          rw w.mask-is
          (mask_set 32 c.loop-k.k c.loop-k.mask P (omega (arith, c.loop-k-test.true)) c.loop-k.invariant (c.field_bit.ensures.0 w.if-field_bit.true))
      | else-field_bit w ↦
          rw w.mask-is (mask_kept c.loop-k.k c.loop-k.mask P c.loop-k.invariant (λ p. no_both _ (c.field_bit.ensures.1 p) w.if-field_bit.false))
    ]
