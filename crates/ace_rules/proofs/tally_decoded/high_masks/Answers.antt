use Rattle.std.proofs.Common.{ℕ, ap, ◌∙◌}
use Rattle.std.specs.Prelude.{if◌then◌else◌}
use Rattle.ace_rules.proofs.DecodedMarks.{decoded-high}
use Rattle.ace_rules.proofs.tally_decoded.high_masks.Goals as goal

pub returns : goal.returns
returns c = λ k place l at.
    decoded-high c.args.note.now k place l at c.args.quiet c.when-count.result c.when-empty.result c.when-2.result c.when-off_path.result
    c.when.result c.when-masked.result c.when-count.ensures c.when-empty.ensures c.when-2.ensures c.when-off_path.ensures c.when.ensures
    (c.when-masked.ensures ∙ ap (λ (mask : ℕ). if c.args.quiet then mask else 0) c.from.ensures)
