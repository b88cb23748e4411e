use Rattle.std.proofs.Common.{◌≡◌, ℕ, ◌+◌, ◌*◌, ◌%◌, ◌^◌, Bool, ap, ◌∙◌, arith}
use Rattle.std.specs.Prelude.{if◌then◌else◌}
use Rattle.std.proofs.lemmas.Nat.{one_shl}
use Rattle.ace_rules.specs.PipelineTests.{becomes_next}
use Rattle.ace_rules.specs.RuleMasks.{is_place_of}
use Rattle.ace_rules.proofs.NextBits.{tried-none, tried-on}
use Rattle.ace_rules.proofs.tally_decoded.next_bits.Goals as goal

pub loop-place-init : goal.loop-place-init
loop-place-init c = record { tried = tried-none (becomes_next c.args.note.now) c.args.first }

pub loop-place-preserved : goal.loop-place-preserved
loop-place-preserved c =
    let at = c.args.first + c.loop-place.place in
    record {
      tried =
          tried-on (becomes_next c.args.note.now) c.args.first c.loop-place.place c.loop-place.mask (1 * 2 ^ at % 2 ^ 128) c.when-mask.result
          (one_shl at 128 (omega arith))
          (c.when-mask.ensures ∙ ap (λ (b : Bool). if b then 1 * 2 ^ at % 2 ^ 128 else 0) c.becomes_next.ensures) c.loop-place.invariant.tried;
    }

pub returns : goal.returns
returns c = λ k.
    let all : c.loop-place.place ≡ 30 = omega arith in
    c.loop-place.invariant.tried k ∙ ap (λ (n : ℕ). is_place_of (becomes_next c.args.note.now) c.args.first n k) all
