use Rattle.std.proofs.Common.{ℕ, ap, ◌∙◌}
use Rattle.std.specs.Prelude.{if◌then◌else◌}
use Rattle.ace_rules.proofs.LatchMarks.{executed-marked}
use Rattle.ace_rules.proofs.tally_latches.executed_masks.Goals as goal

pub returns : goal.returns
returns c =
    executed-marked c.args.note.now c.args.quiet c.when-empty.result c.when-masked.result c.when-cause.result c.when-empty.ensures
    c.when-masked.ensures (c.when-cause.ensures ∙ ap (λ (mask : ℕ). if c.args.note.now.occupied then mask else 0) c.when.ensures)
