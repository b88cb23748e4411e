use Rattle.std.proofs.Common.{◌+◌, ◌*◌, ◌%◌, ◌^◌, Bool, ap, ◌∙◌, arith}
use Rattle.std.specs.Prelude.{if◌then◌else◌}
use Rattle.std.proofs.lemmas.Nat.{one_shl}
use Rattle.ace_rules.specs.RuleMasks.{is_met_harmless}
use Rattle.ace_rules.proofs.NextBits.{tried-on}
use Rattle.ace_rules.proofs.tally_target.met_bits.Goals as goal

pub loop-place-preserved : goal.loop-place-preserved
loop-place-preserved c =
    let at = 4 + c.loop-place.place in
    record {
      tried =
          tried-on (λ j. is_met_harmless c.args.image.now c.args.needs.now c.args.note.now c.args.slot (4 + j)) 4 c.loop-place.place c.loop-place.mask
          (1 * 2 ^ at % 2 ^ 128) c.when-mask.result (one_shl at 128 (omega arith))
          (c.when-mask.ensures ∙ ap (λ (b : Bool). if b then 1 * 2 ^ at % 2 ^ 128 else 0) c.is_met_harmless.ensures) c.loop-place.invariant.tried;
    }
