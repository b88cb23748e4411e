use Rattle.std.proofs.Common.{ℕ, ap, ◌∙◌}
use Rattle.std.specs.Prelude.{if◌then◌else◌}
use Rattle.ace_rules.proofs.LatchMarks.{result-marked}
use Rattle.ace_rules.proofs.tally_latches.result_masks.Goals as goal

pub returns : goal.returns
returns c =
    result-marked c.args.note.now c.args.quiet c.when-empty.result c.when-masked.result c.when-empty.ensures
    (c.when-masked.ensures ∙ ap (λ (mask : ℕ). if c.args.quiet then mask else 0) c.from.ensures)
